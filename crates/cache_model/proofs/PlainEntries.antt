-- The list of entries that a plain cache keeps, and the map that it stands for.
use Rattle.std.proofs.Common.{◌≡◌, ℕ, suc, ◌+◌, ◌<◌, ◌≤◌, Bool, true, false, cond, not, List, [], ◌∷◌, length, map, drop, get_or, set, refl, sym, ap, subst, ◌∙◌, arith, drop-cons, add-one}
use Rattle.std.proofs.Math.Dec.{T}
use Rattle.std.specs.Prelude.{IsTrue, filter, Some, None, Result, Ok, Err, OnOk, OnErr}
use Rattle.std.specs.List.{list_any, insert as insert_at}
use Rattle.std.specs.Str.{bytes_eq}
use Rattle.std.specs.Ordering.{nat_cmp, is_gt, is_eq}
use Rattle.std.specs.declared.cmp.Ordering.{Ordering}
use Rattle.std.specs.declared.cmp.Ordering.TheVariants.{Less, Equal, Greater}
use Rattle.std.specs.Cmp.Lexicographic.{slice_cmp, nat_list_cmp_total, texts_ties}
use Rattle.std.proofs.lemmas.Bool.{both_ways}
use Rattle.std.specs.FinMap.{FinMap, IsAntisymmetric, nat_cmp-IsAntisymmetric, slice_cmp-IsAntisymmetric, is_sorted, from_sorted, empty, get, insert, retain_keys, entries, find, put, entries-from_sorted, get-from_sorted, get-empty, entries-insert, same_entries_map, same_map, get-retain_keys}
use Rattle.std.specs.FinMap.Entries.{find-where_key, is_sorted-where_key, is_sorted-put, by_order}
use Rattle.cache_model.specs.declared.entries.Entry.{Entry}
use Rattle.cache_model.specs.Plain.{Plain, puts, removes, is_visible, visible_at, visible_entry, visible_keys}
use Rattle.cache_model.specs.PlainCache.{plain_with, count_below}

-- the order of keys
abbrev pub order : List ℕ → List ℕ → Ordering
order = slice_cmp nat_cmp

abbrev pub Entries : Type 0
Entries = List (List ℕ × Entry)

-- the map that a list stands for
abbrev pub map_of : Entries → FinMap order Entry
map_of es = from_sorted es

abbrev pub IsInOrder : Entries → Type 0
IsInOrder es = IsTrue (is_sorted order es)

holds : (b : Bool) → IsTrue b → T b
holds b is = subst T (sym is) tt

is_true : (b : Bool) → T b → IsTrue b
is_true true h = refl
is_true false h = absurd h

-- only equal keys tie
pub order-IsAntisymmetric : IsAntisymmetric order
order-IsAntisymmetric = slice_cmp-IsAntisymmetric nat_cmp-IsAntisymmetric

-- the list is what the map gives
pub entries-map_of : (es : Entries) → IsInOrder es → entries (map_of es) ≡ es
entries-map_of es sorted = entries-from_sorted order es (holds _ sorted)

pub get-map_of : (es : Entries) (key : List ℕ) → IsInOrder es → get (map_of es) key ≡ find order key es
get-map_of es key sorted = get-from_sorted order es key (holds _ sorted)

-- no entries are the empty map
pub map_of-none : map_of [] ≡ empty
map_of-none = same_map nat_list_cmp_total order-IsAntisymmetric _ _ (λ q. get-from_sorted order [] q tt ∙ sym (get-empty order q))

-- an entry put in its place
pub IsInOrder-put : (key : List ℕ) (entry : Entry) (es : Entries) → IsInOrder es → IsInOrder (put order key entry es)
IsInOrder-put key entry es sorted = is_true _ (is_sorted-put order nat_list_cmp_total key entry es (holds _ sorted))

pub map_of-put : (key : List ℕ) (entry : Entry) (es : Entries) → IsInOrder es → map_of (put order key entry es) ≡ insert (map_of es) key entry
map_of-put key entry es sorted =
    same_entries_map _ _
    (entries-map_of _ (IsInOrder-put key entry es sorted) ∙ ap (put order key entry) (sym (entries-map_of es sorted))
    ∙ sym (entries-insert nat_list_cmp_total (map_of es) key entry))

-- the entries whose keys pass a test
pub IsInOrder-where : (p : List ℕ → Bool) (es : Entries) → IsInOrder es → IsInOrder (filter (λ e. p e.0) es)
IsInOrder-where p es sorted = is_true _ (is_sorted-where_key order p es (holds _ sorted))

pub map_of-where : (p : List ℕ → Bool) (es : Entries) → IsInOrder es → map_of (filter (λ e. p e.0) es) ≡ retain_keys (map_of es) p
map_of-where p es sorted =
    let alike : (q x : List ℕ) → order q x ≡ Equal → p x ≡ p q = λ q x ties. ap p (sym (order-IsAntisymmetric q x ties)) in
    same_map nat_list_cmp_total order-IsAntisymmetric _ _
    (λ q. get-map_of _ q (IsInOrder-where p es sorted) ∙ find-where_key order p q (alike q) es
    ∙ ap (λ r. cond (p q) r None) (sym (get-map_of es q sorted))
    ∙ sym (get-retain_keys (map_of es) p q (alike q)))

-- the place of a key is within the list
pub count_below-le-length : (key : List ℕ) (es : Entries) → count_below key es ≤ length es
count_below-le-length key [] = omega arith
count_below-le-length key (e ∷ es) = elim (is_gt (order key e.0)) as (λ b. cond b (suc (count_below key es)) 0 ≤ suc (length es)) [ true ↦ omega (arith, count_below-le-length key es) | false ↦ omega arith ]

-- what is left from an index on begins with the entry there
begins : (es : Entries) (i : ℕ) (e : List ℕ × Entry) → i < length es → e ≡ get_or es i e → drop i es ≡ e ∷ drop (i + 1) es
begins es i e within is = drop-cons es i e within ∙ ap (λ x. x ∷ drop (suc i) es) (sym is) ∙ ap (λ j. e ∷ drop j es) (sym (add-one i))

-- a search that comes to the key
pub find-here : (key : List ℕ) (es : Entries) (i : ℕ) (e : List ℕ × Entry) → i < length es → e ≡ get_or es i e → bytes_eq key e.0 ≡ true → find order key (drop i es) ≡ Some e.1
find-here key es i e within is same =
    ap (find order key) (begins es i e within is) ∙ ap (λ b. cond b (Some e.1) (find order key (drop (i + 1) es))) (sym (texts_ties key e.0) ∙ same)

-- a search that goes on
pub find-later : (key : List ℕ) (es : Entries) (i : ℕ) (e : List ℕ × Entry) → i < length es → e ≡ get_or es i e → bytes_eq key e.0 ≡ false → find order key (drop i es) ≡ find order key (drop (i + 1) es)
find-later key es i e within is other =
    ap (find order key) (begins es i e within is) ∙ ap (λ b. cond b (Some e.1) (find order key (drop (i + 1) es))) (sym (texts_ties key e.0) ∙ other)

-- whether two keys are the same, by their order
same-by_order : (key other : List ℕ) (r : Ordering) → order key other ≡ r → bytes_eq key other ≡ is_eq r
same-by_order key other r is = texts_ties key other ∙ ap is_eq is

-- a put at the place of a key, where an entry of that key stands there
pub put-same : (key : List ℕ) (new : Entry) (es : Entries) (e : List ℕ × Entry) → count_below key es < length es → e ≡ get_or es (count_below key es) e → bytes_eq key e.0 ≡ true → put order key new es ≡ set es (count_below key es) (e.0, new)
put-same key new [] e within is same = absurd (omega arith)
put-same key new (f ∷ es) e within is same =
    elim (order key f.0) as (λ r. order key f.0 ≡ r → cond (is_gt r) (suc (count_below key es)) 0 < suc (length es) → e ≡ get_or (f ∷ es) (cond (is_gt r) (suc (count_below key es)) 0) e
    → by_order r ((key, new) ∷ f ∷ es) ((f.0, new) ∷ es) (f ∷ put order key new es) ≡ set (f ∷ es) (cond (is_gt r) (suc (count_below key es)) 0) (e.0, new)) [
      | Less ↦ λ less w i. absurd (both_ways _ (ap (λ x. bytes_eq key x.0) i ∙ same-by_order key f.0 Less less) same)
      | Equal ↦ λ equal w i. ap (λ x. (x.0, new) ∷ es) (sym i)
      | Greater ↦ λ more w i. ap (λ l. f ∷ l) (put-same key new es e (omega arith) i same)
    ] refl within is

-- a put at the place of a key, where an entry of another key stands there
pub put-before : (key : List ℕ) (new : Entry) (es : Entries) (e : List ℕ × Entry) → count_below key es < length es → e ≡ get_or es (count_below key es) e → bytes_eq key e.0 ≡ false → put order key new es ≡ insert_at es (count_below key es) (key, new)
put-before key new [] e within is other = absurd (omega arith)
put-before key new (f ∷ es) e within is other =
    elim (order key f.0) as (λ r. order key f.0 ≡ r → cond (is_gt r) (suc (count_below key es)) 0 < suc (length es) → e ≡ get_or (f ∷ es) (cond (is_gt r) (suc (count_below key es)) 0) e
    → by_order r ((key, new) ∷ f ∷ es) ((f.0, new) ∷ es) (f ∷ put order key new es) ≡ insert_at (f ∷ es) (cond (is_gt r) (suc (count_below key es)) 0) (key, new)) [
      | Less ↦ λ less w i. refl
      | Equal ↦ λ equal w i. absurd (both_ways _ other (ap (λ x. bytes_eq key x.0) i ∙ same-by_order key f.0 Equal equal))
      | Greater ↦ λ more w i. ap (λ l. f ∷ l) (put-before key new es e (omega arith) i other)
    ] refl within is

-- a put at the end
pub put-last : (key : List ℕ) (new : Entry) (es : Entries) → length es ≤ count_below key es → put order key new es ≡ insert_at es (count_below key es) (key, new)
put-last key new [] past = refl
put-last key new (f ∷ es) past =
    elim (order key f.0) as (λ r. suc (length es) ≤ cond (is_gt r) (suc (count_below key es)) 0
    → by_order r ((key, new) ∷ f ∷ es) ((f.0, new) ∷ es) (f ∷ put order key new es) ≡ insert_at (f ∷ es) (cond (is_gt r) (suc (count_below key es)) 0) (key, new)) [
      | Less ↦ λ p. absurd (omega arith)
      | Equal ↦ λ p. absurd (omega arith)
      | Greater ↦ λ p. ap (λ l. f ∷ l) (put-last key new es (omega arith))
    ] past

-- the same three, at an index that is the key's place
pub set-at_place : (key : List ℕ) (new : Entry) (es : Entries) (e : List ℕ × Entry) (at : ℕ) → at ≡ count_below key es → at < length es → e ≡ get_or es at e → bytes_eq key e.0 ≡ true → set es at (e.0, new) ≡ put order key new es
set-at_place key new es e at place =
    subst (λ j. j < length es → e ≡ get_or es j e → bytes_eq key e.0 ≡ true → set es j (e.0, new) ≡ put order key new es) (sym place) (λ within is same. sym (put-same key new es e within is same))

pub insert-at_place : (key : List ℕ) (new : Entry) (es : Entries) (e : List ℕ × Entry) (at : ℕ) → at ≡ count_below key es → at < length es → e ≡ get_or es at e → bytes_eq key e.0 ≡ false → insert_at es at (key, new) ≡ put order key new es
insert-at_place key new es e at place =
    subst (λ j. j < length es → e ≡ get_or es j e → bytes_eq key e.0 ≡ false → insert_at es j (key, new) ≡ put order key new es) (sym place) (λ within is other. sym (put-before key new es e within is other))

pub insert-at_end : (key : List ℕ) (new : Entry) (es : Entries) (at : ℕ) → at ≡ count_below key es → length es ≤ at → insert_at es at (key, new) ≡ put order key new es
insert-at_end key new es at place = subst (λ j. length es ≤ j → insert_at es j (key, new) ≡ put order key new es) (sym place) (λ past. sym (put-last key new es past))

-- what follows from either outcome
pub by_outcome : {V E A B C : Type 0} (r : Result V E) → OnOk r A → OnErr r B → (A → C) → (B → C) → C
by_outcome (Ok v) a b f g = f a
by_outcome (Err e) a b f g = g b

-- what follows on Ok
pub OnOk-map : {V E A B : Type 0} (r : Result V E) → (A → B) → OnOk r A → OnOk r B
OnOk-map (Ok v) f a = f a
OnOk-map (Err e) f a = a

-- what a kept list and a moment stand for
abbrev pub plain_of : Entries → ℕ → Plain
plain_of es moment = record { entries = map_of es; moment = moment }

pub visible_entry-plain_of : (es : Entries) (moment : ℕ) (key : List ℕ) → IsInOrder es → visible_entry (plain_of es moment) key ≡ visible_at moment (find order key es)
visible_entry-plain_of es moment key sorted = ap (visible_at moment) (get-map_of es key sorted)

pub visible_keys-plain_of : (es : Entries) (moment : ℕ) → IsInOrder es → visible_keys (plain_of es moment) ≡ map (λ e. e.0) (filter (λ e. is_visible e.1.until moment) es)
visible_keys-plain_of es moment sorted = ap (λ (l : Entries). map (λ e. e.0) (filter (λ e. is_visible e.1.until moment) l)) (entries-map_of es sorted)

pub plain_of-put : (es : Entries) (moment : ℕ) (key : List ℕ) (entry : Entry) → IsInOrder es → plain_of (put order key entry es) moment ≡ plain_with (plain_of es moment) (puts key entry)
plain_of-put es moment key entry sorted = ap (λ m. record { entries = m; moment = moment }) (map_of-put key entry es sorted)

pub plain_of-where : (es : Entries) (moment : ℕ) (keys : List (List ℕ)) → IsInOrder es → plain_of (filter (λ e. not (list_any (bytes_eq e.0) keys)) es) moment ≡ plain_with (plain_of es moment) (removes keys)
plain_of-where es moment keys sorted = ap (λ m. record { entries = m; moment = moment }) (map_of-where (λ key. not (list_any (bytes_eq key) keys)) es sorted)

-- a found entry, visible or not
pub visible_entry-found : (plain : Plain) (es : Entries) (moment : ℕ) (key : List ℕ) (entry : Entry) (b : Bool) → plain_of es moment ≡ plain → IsInOrder es → Some entry ≡ find order key es → b ≡ is_visible entry.until moment → visible_entry plain key ≡ cond b (Some entry) None
visible_entry-found plain es moment key entry b is sorted found visible =
    ap (λ p. visible_entry p key) (sym is) ∙ visible_entry-plain_of es moment key sorted ∙ ap (visible_at moment) (sym found) ∙ ap (λ v. cond v (Some entry) None) (sym visible)

-- no entry
pub visible_entry-none : (plain : Plain) (es : Entries) (moment : ℕ) (key : List ℕ) → plain_of es moment ≡ plain → IsInOrder es → None ≡ find order key es → visible_entry plain key ≡ None
visible_entry-none plain es moment key is sorted none = ap (λ p. visible_entry p key) (sym is) ∙ visible_entry-plain_of es moment key sorted ∙ ap (visible_at moment) (sym none)
