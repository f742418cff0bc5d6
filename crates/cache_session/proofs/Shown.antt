-- What a content shows after some changes.
use Rattle.std.proofs.Common.{◌≡◌, ℕ, ◌≤◌, Bool, true, false, List, [], ◌∷◌, length, Option, Some, None, refl, sym, ◌∙◌, ap}
use Rattle.std.specs.Prelude.{if◌then◌else◌, ◌||◌}
use Rattle.std.specs.Str.{bytes_eq}
use Rattle.std.specs.FinMap.{get}
use Rattle.std.proofs.lemmas.Slice.Eq.{bytes_eq-Decides}
use Rattle.cache_model.specs.declared.entries.Entry.{Entry}
use Rattle.cache_model.specs.declared.entries.Change.{Change}
use Rattle.cache_model.specs.declared.entries.Change.TheVariants.{Put, Remove}
use Rattle.cache_model.specs.declared.commands.Command.{Command}
use Rattle.cache_model.specs.Plain.{Plain, puts, removes, is_visible, visible_at, effect_of, moment_after, plain_after}
use Rattle.cache_model.specs.Changes.{KeyChange, changes_by, entry_after}
use Rattle.cache_model.proofs.Prefixes.{entry_after-effect}
use Rattle.store_trait.specs.Meaning.{Reading, Content, read_in, seen, StoreFacts}
use Rattle.store_trait.specs.Keeping.{IsKept}
use Rattle.store_trait.proofs.Alike.{unseen_later, alike_later, alike_seen}
use Rattle.cache_session.specs.Changing.{after_all, IsOrder, Shows}
use Rattle.cache_session.proofs.Changing.{last_of, read_after}

-- the entry of a reading
abbrev pub joined : Reading → Option Entry
joined None = None
joined (Some entry) = entry

pub seen_joined : (m : ℕ) (r : Reading) → seen m r ≡ visible_at m (joined r)
seen_joined m None = refl
seen_joined m (Some entry) = refl

shown : (b : Bool) (e x : Entry) → (if b then Some e else None) ≡ Some x → Some e ≡ Some x
shown true e x h = h
shown false e x h = cc

visible_some : (m : ℕ) (e : Option Entry) (x : Entry) → visible_at m e ≡ Some x → e ≡ Some x
visible_some m None x h = cc
visible_some m (Some e) x h = shown (is_visible e.until m) e x h

-- what shows the same at a moment does so later
pub visible_later : (m n : ℕ) (d e : Option Entry) → m ≤ n → visible_at m d ≡ visible_at m e → visible_at n d ≡ visible_at n e
visible_later m n d e le same = by (visible_at m d) refl
  where
    by : (o : Option Entry) → visible_at m d ≡ o → visible_at n d ≡ visible_at n e
    by None is = unseen_later m n (Some d) le is ∙ sym (unseen_later m n (Some e) le (sym same ∙ is))
    by (Some x) is = ap (visible_at n) (visible_some m d x is ∙ sym (visible_some m e x (sym same ∙ is)))

pub seen_later : (m n : ℕ) (r : Reading) (e : Option Entry) → m ≤ n → seen m r ≡ visible_at m e → seen n r ≡ visible_at n e
seen_later m n r e le same = seen_joined n r ∙ visible_later m n (joined r) e le (sym (seen_joined m r) ∙ same)

pub last_seen : (m : ℕ) (changes : List KeyChange) (r : Reading) (e : Option Entry) → seen m r ≡ visible_at m e → seen m (last_of changes r) ≡ visible_at m (entry_after e changes (length changes))
last_seen m [] r e same = same
last_seen m (change ∷ changes) r e same = last_seen m changes (Some change) change refl

-- a content after the changes of a command shows the plain map after it
pub shows_after : (f : StoreFacts) (plain : Plain) (command : Command) (changes : List Change) (c d : Content)
    → Shows plain c
    → plain.moment ≤ moment_after plain.moment command
    → IsOrder (effect_of plain command) changes
    → IsKept f plain.moment (after_all changes c) d
    → Shows (plain_after plain command) d
shows_after f plain command changes c d shows le order content key =
    let n = moment_after plain.moment command in
    let effect = effect_of plain command in
    alike_seen (f.forgets key) n (read_in d key) (read_in (after_all changes c) key) (alike_later (f.forgets key) plain.moment n (read_in d key) (read_in (after_all changes c) key) le (content key))
    ∙ ap (seen n) (read_after changes c key ∙ ap (λ (l : List KeyChange). last_of l (read_in c key)) (order key))
    ∙ last_seen n (changes_by effect key) (read_in c key) (get plain.entries key) (seen_later plain.moment n (read_in c key) (get plain.entries key) le (shows key))
    ∙ ap (visible_at n) (entry_after-effect plain.entries effect key)

pub bytes_eq-sym : (a b : List ℕ) → bytes_eq a b ≡ bytes_eq b a
bytes_eq-sym a b = by (bytes_eq a b) refl (bytes_eq b a) refl
  where
    by : (x : Bool) → bytes_eq a b ≡ x → (y : Bool) → bytes_eq b a ≡ y → x ≡ y
    by true is true other = refl
    by true is false other = sym ((bytes_eq-Decides b a).1 (sym ((bytes_eq-Decides a b).0 is))) ∙ other
    by false is true other = sym is ∙ (bytes_eq-Decides a b).1 (sym ((bytes_eq-Decides b a).0 other))
    by false is false other = refl

-- one put, one removal

pub order_put : (key : List ℕ) (entry : Entry) → IsOrder (puts key entry) (Put key entry ∷ [])
order_put key entry k = ap (λ (b : Bool). if b then Some entry ∷ [] else []) (bytes_eq-sym key k)

pub order_remove : (key : List ℕ) → IsOrder (removes (key ∷ [])) (Remove key ∷ [])
order_remove key k = ap (λ (b : Bool). if b then None ∷ [] else []) (bytes_eq-sym key k ∙ or_false (bytes_eq k key))
  where
    or_false : (b : Bool) → b ≡ (b || false)
    or_false true = refl
    or_false false = refl
