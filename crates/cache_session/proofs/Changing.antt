-- Lists of changes.
use Rattle.std.proofs.Common.{◌≡◌, ℕ, Bool, true, false, List, [], ◌∷◌, ◌++◌, take, drop, Some, refl, sym, ◌∙◌, ap, subst}
use Rattle.std.specs.Prelude.{if◌then◌else◌}
use Rattle.std.proofs.lemmas.List.{take-append-drop}
use Rattle.std.specs.Str.{bytes_eq}
use Rattle.cache_model.specs.declared.entries.Change.{Change}
use Rattle.cache_model.specs.Changes.{KeyChange}
use Rattle.std.proofs.Common.{inl}
use Rattle.store_trait.specs.Meaning.{Reading, Content, read_in, key_of, entry_of, changed, IsAlike}
use Rattle.cache_session.specs.Changing.{after_all, of_key, has_some}

-- a reading after some changes of its key
abbrev pub last_of : List KeyChange → Reading → Reading
last_of [] r = r
last_of (change ∷ changes) r = last_of changes (Some change)

-- what a key reads after some changes is by its own
pub read_after : (changes : List Change) (content : Content) (key : List ℕ) → read_in (after_all changes content) key ≡ last_of (of_key key changes) (read_in content key)
read_after [] content key = refl
read_after (change ∷ changes) content key = read_after changes (changed change content) key ∙ by (bytes_eq (key_of change) key)
  where
    by : (b : Bool) → last_of (of_key key changes) (if b then Some (entry_of change) else read_in content key) ≡ last_of (if b then entry_of change ∷ of_key key changes else of_key key changes) (read_in content key)
    by true = refl
    by false = refl

pub after_all-append : (one two : List Change) (content : Content) → after_all (one ++ two) content ≡ after_all two (after_all one content)
after_all-append [] two content = refl
after_all-append (change ∷ one) two content = after_all-append one two (changed change content)

pub of_key-append : (key : List ℕ) (one two : List Change) → of_key key (one ++ two) ≡ of_key key one ++ of_key key two
of_key-append key [] two = refl
of_key-append key (change ∷ one) two = by (bytes_eq (key_of change) key) (of_key-append key one two)
  where
    by : (b : Bool) → of_key key (one ++ two) ≡ of_key key one ++ of_key key two → (if b then entry_of change ∷ of_key key (one ++ two) else of_key key (one ++ two)) ≡ (if b then entry_of change ∷ of_key key one else of_key key one) ++ of_key key two
    by true is = ap (λ (l : List KeyChange). entry_of change ∷ l) is
    by false is = is

pub has_none : (l : List KeyChange) → has_some l ≡ false → l ≡ []
has_none [] h = refl
has_none (change ∷ changes) h = cc

pub has_first : (l k : List KeyChange) → has_some (l ++ k) ≡ false → has_some l ≡ false
has_first [] k h = refl
has_first (change ∷ l) k h = h

pub has_earlier : (l k : List KeyChange) → has_some (l ++ k) ≡ true → has_some k ≡ false → has_some l ≡ true
has_earlier [] k h none = sym none ∙ h
has_earlier (change ∷ l) k h none = refl

-- a key without a change reads as before, at each of the changes
pub reads_still : (key : List ℕ) (changes : List Change) (n : ℕ) (content : Content) → has_some (of_key key changes) ≡ false → read_in (after_all (take n changes) content) key ≡ read_in content key
reads_still key changes n content h =
    read_after (take n changes) content key
    ∙ ap (λ (l : List KeyChange). last_of l (read_in content key)) (has_none (of_key key (take n changes)) (has_first (of_key key (take n changes)) (of_key key (drop n changes)) (ap has_some (sym split) ∙ h)))
  where
    split : of_key key changes ≡ of_key key (take n changes) ++ of_key key (drop n changes)
    split = ap (of_key key) (sym (take-append-drop n changes)) ∙ of_key-append key (take n changes) (drop n changes)

last_alike : (f : Type 0) (m : ℕ) (l : List KeyChange) (r q : Reading) → IsAlike f m r q → IsAlike f m (last_of l r) (last_of l q)
last_alike f m [] r q alike = alike
last_alike f m (change ∷ l) r q alike = last_alike f m l (Some change) (Some change) (inl refl)

-- the same changes over a content that is alike
pub after_alike : (f : Type 0) (m : ℕ) (changes : List Change) (a b : Content) (key : List ℕ) → IsAlike f m (read_in b key) (read_in a key) → IsAlike f m (read_in (after_all changes b) key) (read_in (after_all changes a) key)
after_alike f m changes a b key alike =
    subst (λ (r : Reading). IsAlike f m r (read_in (after_all changes a) key)) (sym (read_after changes b key))
    (subst (λ (r : Reading). IsAlike f m (last_of (of_key key changes) (read_in b key)) r) (sym (read_after changes a key))
    (last_alike f m (of_key key changes) (read_in b key) (read_in a key) alike))
