-- The plain map of a content, and what an image reads.
use Rattle.std.proofs.Common.{◌≡◌, inl, inr, ⊎_elim, ℕ, Bool, true, false, List, [], ◌∷◌, length, Option, Some, None, refl, sym, ◌∙◌, ap, subst}
use Rattle.std.specs.Prelude.{if◌then◌else◌, ◌||◌}
use Rattle.std.specs.Str.{bytes_eq}
use Rattle.std.specs.Bool.{Decides}
use Rattle.std.proofs.lemmas.Slice.Eq.{bytes_eq-Decides}
use Rattle.std.specs.Ordering.{nat_cmp}
use Rattle.std.specs.Cmp.Lexicographic.{slice_cmp}
use Rattle.std.specs.FinMap.{get, empty, get-empty}
use Rattle.cache_model.specs.declared.entries.Entry.{Entry}
use Rattle.cache_model.specs.Files.{Image}
use Rattle.cache_model.specs.Images.{IsCounted, entry_by, HasEntry, HasNoRecord}
use Rattle.cache_model.specs.Plain.{Plain, PlainMap, Effect, puts, removes, map_after}
use Rattle.cache_model.specs.Changes.{KeyChange, changes_by, entry_after}
use Rattle.cache_model.proofs.Prefixes.{entry_after-effect}
use Rattle.cache_model.proofs.Existing.{newest_exists, has_key, keys_exist}
use Rattle.store_trait.specs.Meaning.{Reading, Content, read_in}
use Rattle.soft_index.specs.Store.{HasReading}
use Rattle.cache_session.proofs.Shown.{bytes_eq-sym}
use Rattle.cache_cli.specs.Fitting.{entry_of_reading, IsOpening}

-- what is held under a key, as an effect
abbrev held_effect : List ℕ → Option Entry → Effect
held_effect key (Some entry) = puts key entry
held_effect key None = removes (key ∷ [])

or_false : (b : Bool) → (b || false) ≡ b
or_false true = refl
or_false false = refl

held_changes : (key : List ℕ) (held : Option Entry) (k : List ℕ) → changes_by (held_effect key held) k ≡ (if bytes_eq k key then held ∷ [] else [])
held_changes key (Some entry) k = refl
held_changes key None k = ap (λ (b : Bool). if b then None ∷ [] else []) (or_false (bytes_eq k key))

-- the entries of a content
abbrev map_of : Content → PlainMap
map_of [] = empty
map_of (held ∷ content) = map_after (map_of content) (held_effect held.0 held.1)

map_reads : (content : Content) (k : List ℕ) → entry_of_reading (read_in content k) ≡ get (map_of content) k
map_reads [] k = sym (get-empty (slice_cmp nat_cmp) k)
map_reads (held ∷ content) k =
    by (bytes_eq held.0 k) (bytes_eq-sym held.0 k) (map_reads content k)
    ∙ ap (λ (changes : List KeyChange). entry_after (get (map_of content) k) changes (length changes)) (sym (held_changes held.0 held.1 k))
    ∙ entry_after-effect (map_of content) (held_effect held.0 held.1) k
  where
    by : (b : Bool) → b ≡ bytes_eq k held.0 → entry_of_reading (read_in content k) ≡ get (map_of content) k
        → entry_of_reading (if b then Some held.1 else read_in content k)
        ≡ entry_after (get (map_of content) k) (if bytes_eq k held.0 then held.1 ∷ [] else []) (length (if bytes_eq k held.0 then held.1 ∷ [] else []))
    by true same rest = ap (λ (b : Bool). entry_after (get (map_of content) k) (if b then held.1 ∷ [] else []) (length (if b then held.1 ∷ [] else []))) same
    by false same rest = rest ∙ ap (λ (b : Bool). entry_after (get (map_of content) k) (if b then held.1 ∷ [] else []) (length (if b then held.1 ∷ [] else []))) same

-- a content is the opening content of a plain map
pub opening_of : (content : Content) (moment : ℕ) → (plain : Plain) × IsOpening plain content × (plain.moment ≡ moment)
opening_of content moment = (record { entries = map_of content; moment = moment }, map_reads content, refl)

-- a reading is that of an entry
pub entry_read : (image : Image) (key : List ℕ) (r : Reading) → HasReading (IsCounted image) key r → HasEntry image key (entry_of_reading r)
entry_read image key r = ⊎_elim
    (λ none. inl (none.0, ap entry_of_reading none.1))
    (λ some. inr (some.0, some.1, some.2, record { counted = some.3.counted; of_key = some.3.of_key; newest = some.3.newest }, ap entry_of_reading some.4))

-- each key of an image has a reading
pub reading_exists : (image : Image) (key : List ℕ) → (r : Reading) × HasReading (IsCounted image) key r
reading_exists image key = ⊎_elim
    (λ none. (None, inl (none, refl)))
    (λ some. (Some (entry_by some.2), inr (some.0, some.1, some.2, record { counted = some.3.counted; of_key = some.3.of_key; newest = some.3.newest }, refl)))
    (newest_exists image key)

-- what these keys of an image read, as a content
abbrev with_reading : List ℕ → Reading → Content → Content
with_reading key None content = content
with_reading key (Some entry) content = (key, entry) ∷ content

abbrev content_at : Image → List (List ℕ) → Content
content_at image [] = []
content_at image (key ∷ keys) = with_reading key (reading_exists image key).0 (content_at image keys)

-- a key that is among them reads as in the image, and another one reads nothing
content_reads : (image : Image) (keys : List (List ℕ)) (key : List ℕ) → read_in (content_at image keys) key ≡ (if has_key key keys then (reading_exists image key).0 else None)
content_reads image [] key = refl
content_reads image (one ∷ keys) key = by (bytes_eq one key) (bytes_eq-Decides one key) refl (reading_exists image one).0 refl (content_reads image keys key)
  where
    rest : Reading
    rest = read_in (content_at image keys) key

    of_key : (b : Bool) (r : Reading) → rest ≡ (if b then r else None) → r ≡ None → rest ≡ r
    of_key true r is none = is
    of_key false r is none = is ∙ sym none

    by : (b : Bool) → Decides b (one ≡ key) → bytes_eq one key ≡ b → (r : Reading) → (reading_exists image one).0 ≡ r
        → rest ≡ (if has_key key keys then (reading_exists image key).0 else None)
        → read_in (with_reading one r (content_at image keys)) key ≡ (if b || has_key key keys then (reading_exists image key).0 else None)
    by true same is None at later = let r_is : (reading_exists image key).0 ≡ None = sym (ap (λ (k : List ℕ). (reading_exists image k).0) (same.0 refl)) ∙ at in of_key (has_key key keys) (reading_exists image key).0 later r_is
    by true same is (Some entry) at later =
        ap (λ (b : Bool). if b then Some entry else rest) is ∙ sym at ∙ ap (λ (k : List ℕ). (reading_exists image k).0) (same.0 refl)
    by false same is None at later = later
    by false same is (Some entry) at later = ap (λ (b : Bool). if b then Some entry else rest) is ∙ later

-- all keys of an image together read as in one content
pub content_exists : (image : Image) → (content : Content) × ((key : List ℕ) → HasReading (IsCounted image) key (read_in content key))
content_exists image =
    let keys = keys_exist image in
    (content_at image keys.0, λ key. by key (has_key key keys.0) (read_in (content_at image keys.0) key) (content_reads image keys.0 key) (keys.1 key))
  where
    by : (key : List ℕ) (b : Bool) (r : Reading) → r ≡ (if b then (reading_exists image key).0 else None) → (b ≡ false → HasNoRecord image key) → HasReading (IsCounted image) key r
    by key true r is none = subst (λ (x : Reading). HasReading (IsCounted image) key x) (sym is) (reading_exists image key).1
    by key false r is none = inl (none refl, is)
