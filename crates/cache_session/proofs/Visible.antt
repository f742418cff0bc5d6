-- The visible keys of a plain map, and removals of them.
use Rattle.std.proofs.Common.{◌≡◌, ℕ, suc, ◌+◌, Bool, true, false, cond, List, [], ◌∷◌, ◌++◌, map, length, Option, Some, None, refl, sym, ◌∙◌, ap, subst, arith, append_assoc, length-append}
use Rattle.std.proofs.Math.Dec.{T}
use Rattle.std.proofs.lemmas.List.{append-nil}
use Rattle.std.specs.Prelude.{is_some, if◌then◌else◌, ◌||◌, ◌&&◌, filter}
use Rattle.std.specs.List.{list_any}
use Rattle.std.specs.Str.{bytes_eq}
use Rattle.std.specs.Ordering.{is_lt, is_eq}
use Rattle.std.specs.declared.cmp.Ordering.{Ordering}
use Rattle.std.specs.declared.cmp.Ordering.TheVariants.{Less, Equal, Greater}
use Rattle.std.specs.Cmp.Lexicographic.{texts_ties}
use Rattle.std.specs.FinMap.{find, entries, entries_sorted, get-entries, is_sorted}
use Rattle.std.specs.FinMap.Entries.{below_all}
use Rattle.std.proofs.lemmas.Slice.Eq.{bytes_eq-Decides}
use Rattle.cache_model.specs.declared.entries.Entry.{Entry}
use Rattle.cache_model.specs.declared.entries.Change.{Change}
use Rattle.cache_model.specs.declared.entries.Change.TheVariants.{Put, Remove}
use Rattle.cache_model.specs.Changes.{KeyChange}
use Rattle.cache_model.specs.Plain.{Plain, Effect, nothing, puts, removes, is_visible, visible_at, visible_keys, sees}
use Rattle.cache_model.proofs.PlainEntries.{order, Entries}
use Rattle.store_trait.specs.Meaning.{key_of, entry_of}
use Rattle.cache_session.specs.Changing.{of_key, has_some, IsOrder}
use Rattle.cache_session.proofs.Changing.{of_key-append, has_none}
use Rattle.cache_session.proofs.Shown.{bytes_eq-sym, order_put}

first : (a b : Bool) → T (a && b) → T a
first true b p = tt
first false b p = p

second : (a b : Bool) → T (a && b) → T b
second true b p = p
second false b p = absurd p

apart : (o : Ordering) → T (is_lt o) → is_eq o ≡ false
apart Less p = refl
apart Equal p = absurd p
apart Greater p = refl

pub same_bytes : (a b : List ℕ) → bytes_eq a b ≡ true → a ≡ b
same_bytes a b = (bytes_eq-Decides a b).0

pub self_bytes : (a : List ℕ) → bytes_eq a a ≡ true
self_bytes a = (bytes_eq-Decides a a).1 refl

-- a key that stands before some others isn't among them
none_below : (m : ℕ) (x : List ℕ) (es : Entries) → T (below_all order x es) → list_any (bytes_eq x) (map (λ e. e.0) (filter (λ e. is_visible e.1.until m) es)) ≡ false
none_below m x [] h = refl
none_below m x (e ∷ es) h = by (is_visible e.1.until m) (none_below m x es (second (is_lt (order x e.0)) (below_all order x es) h)) (texts_ties x e.0 ∙ apart (order x e.0) (first (is_lt (order x e.0)) (below_all order x es) h))
  where
    by : (b : Bool) → list_any (bytes_eq x) (map (λ e. e.0) (filter (λ e. is_visible e.1.until m) es)) ≡ false → bytes_eq x e.0 ≡ false
        → list_any (bytes_eq x) (map (λ e. e.0) (cond b (e ∷ filter (λ e. is_visible e.1.until m) es) (filter (λ e. is_visible e.1.until m) es))) ≡ false
    by true later here = ap (λ (c : Bool). c || list_any (bytes_eq x) (map (λ e. e.0) (filter (λ e. is_visible e.1.until m) es))) here ∙ later
    by false later here = later

any_entries : (m : ℕ) (key : List ℕ) (es : Entries) → T (is_sorted order es) → list_any (bytes_eq key) (map (λ e. e.0) (filter (λ e. is_visible e.1.until m) es)) ≡ is_some (visible_at m (find order key es))
any_entries m key [] h = refl
any_entries m key (e ∷ es) h = by (is_visible e.1.until m) refl (bytes_eq key e.0) refl (any_entries m key es (second (below_all order e.0 es) (is_sorted order es) h))
    (none_below m e.0 es (first (below_all order e.0 es) (is_sorted order es) h))
  where
    rest : List (List ℕ)
    rest = map (λ e. e.0) (filter (λ e. is_visible e.1.until m) es)

    by : (b : Bool) → is_visible e.1.until m ≡ b → (c : Bool) → bytes_eq key e.0 ≡ c
        → list_any (bytes_eq key) rest ≡ is_some (visible_at m (find order key es))
        → list_any (bytes_eq e.0) rest ≡ false
        → list_any (bytes_eq key) (map (λ e. e.0) (cond b (e ∷ filter (λ e. is_visible e.1.until m) es) (filter (λ e. is_visible e.1.until m) es)))
        ≡ is_some (visible_at m (cond (is_eq (order key e.0)) (Some e.1) (find order key es)))
    by b visible true same later none = finds b visible ∙ ap (λ (c : Bool). is_some (visible_at m (cond c (Some e.1) (find order key es)))) (sym same ∙ texts_ties key e.0)
      where
        finds : (b : Bool) → is_visible e.1.until m ≡ b → list_any (bytes_eq key) (map (λ e. e.0) (cond b (e ∷ filter (λ e. is_visible e.1.until m) es) (filter (λ e. is_visible e.1.until m) es))) ≡ is_some (visible_at m (Some e.1))
        finds true is = ap (λ (c : Bool). c || list_any (bytes_eq key) rest) same ∙ ap (λ (c : Bool). is_some (if c then Some e.1 else None)) (sym is)
        finds false is = subst (λ (k : List ℕ). list_any (bytes_eq k) rest ≡ false) (sym (same_bytes key e.0 same)) none ∙ ap (λ (c : Bool). is_some (if c then Some e.1 else None)) (sym is)
    by b visible false other later none = skips b ∙ later ∙ ap (λ (c : Bool). is_some (visible_at m (cond c (Some e.1) (find order key es)))) (sym other ∙ texts_ties key e.0)
      where
        skips : (b : Bool) → list_any (bytes_eq key) (map (λ e. e.0) (cond b (e ∷ filter (λ e. is_visible e.1.until m) es) (filter (λ e. is_visible e.1.until m) es))) ≡ list_any (bytes_eq key) rest
        skips true = ap (λ (c : Bool). c || list_any (bytes_eq key) rest) other
        skips false = refl

-- a key is among the visible ones exactly where it is seen
pub visible_any : (plain : Plain) (key : List ℕ) → list_any (bytes_eq key) (visible_keys plain) ≡ sees plain key
visible_any plain key = any_entries plain.moment key (entries plain.entries) (entries_sorted plain.entries) ∙ ap (λ (e : Option Entry). is_some (visible_at plain.moment e)) (sym (get-entries plain.entries key))

-- each key once
abbrev pub IsOnce : List (List ℕ) → Type 0
IsOnce [] = Unit {0}
IsOnce (k ∷ ks) = (list_any (bytes_eq k) ks ≡ false) × IsOnce ks

once_entries : (m : ℕ) (es : Entries) → T (is_sorted order es) → IsOnce (map (λ e. e.0) (filter (λ e. is_visible e.1.until m) es))
once_entries m [] h = tt
once_entries m (e ∷ es) h = by (is_visible e.1.until m) (once_entries m es (second (below_all order e.0 es) (is_sorted order es) h)) (none_below m e.0 es (first (below_all order e.0 es) (is_sorted order es) h))
  where
    by : (b : Bool) → IsOnce (map (λ e. e.0) (filter (λ e. is_visible e.1.until m) es)) → list_any (bytes_eq e.0) (map (λ e. e.0) (filter (λ e. is_visible e.1.until m) es)) ≡ false
        → IsOnce (map (λ e. e.0) (cond b (e ∷ filter (λ e. is_visible e.1.until m) es) (filter (λ e. is_visible e.1.until m) es)))
    by true later none = (none, later)
    by false later none = later

pub visible_once : (plain : Plain) → IsOnce (visible_keys plain)
visible_once plain = once_entries plain.moment (entries plain.entries) (entries_sorted plain.entries)

-- a change of a key, and what stands before and behind it
record Splits (key : List ℕ) (changes : List Change) : Type 0 where
  one : List Change
  change : Change
  two : List Change
  is : changes ≡ one ++ change ∷ two
  same : bytes_eq (key_of change) key ≡ true

splits : (key : List ℕ) (changes : List Change) → has_some (of_key key changes) ≡ true → Splits key changes
splits key [] h = cc
splits key (change ∷ changes) h = by (bytes_eq (key_of change) key) refl h (splits key changes)
  where
    by : (b : Bool) → bytes_eq (key_of change) key ≡ b → has_some (if b then entry_of change ∷ of_key key changes else of_key key changes) ≡ true → (has_some (of_key key changes) ≡ true → Splits key changes) → Splits key (change ∷ changes)
    by true is h later = record { one = []; change = change; two = changes; is = refl; same = is }
    by false is h later = let s = later h in record { one = change ∷ s.one; change = s.change; two = s.two; is = ap (λ (l : List Change). change ∷ l) s.is; same = s.same }

no_changes : (changes : List Change) → ((key : List ℕ) → of_key key changes ≡ []) → changes ≡ []
no_changes [] h = refl
no_changes (change ∷ changes) h = absurd (never (ap has_some (sym (ap (λ (b : Bool). if b then entry_of change ∷ of_key (key_of change) changes else of_key (key_of change) changes) (self_bytes (key_of change))) ∙ h (key_of change))))
  where
    never : true ≡ false → ⊥
    never e = cc

empty_of : (l : List KeyChange) → length l ≡ 0 → l ≡ []
empty_of [] h = refl
empty_of (c ∷ l) h = absurd (omega (arith, h))

-- removals of some keys, each once, are as many
pub same_length : (ks : List (List ℕ)) (changes : List Change) → IsOnce ks → ((key : List ℕ) → of_key key changes ≡ (if list_any (bytes_eq key) ks then None ∷ [] else [])) → length changes ≡ length ks
same_length [] changes once each = ap (λ (l : List Change). length l) (no_changes changes each)
same_length (k ∷ ks) changes once each = longer (same_length ks (one ++ two) once.1 less)
  where
    has : of_key k changes ≡ None ∷ []
    has = each k ∙ ap (λ (b : Bool). if b || list_any (bytes_eq k) ks then None ∷ [] else []) (self_bytes k)

    split : Splits k changes
    split = splits k changes (ap has_some has)

    one : List Change
    one = split.one

    two : List Change
    two = split.two

    change : Change
    change = split.change

    longer : length (one ++ two) ≡ length ks → length changes ≡ suc (length ks)
    longer h = ap (λ (l : List Change). length l) split.is ∙ omega (arith, h, length-append one (change ∷ two), length-append one two)

    apart_of : (key : List ℕ) → of_key key changes ≡ of_key key one ++ of_key key (change ∷ two)
    apart_of key = ap (of_key key) split.is ∙ of_key-append key one (change ∷ two)

    less : (key : List ℕ) → of_key key (one ++ two) ≡ (if list_any (bytes_eq key) ks then None ∷ [] else [])
    less key = of_key-append key one two ∙ by (bytes_eq (key_of change) key) refl
      where
        by : (b : Bool) → bytes_eq (key_of change) key ≡ b → of_key key one ++ of_key key two ≡ (if list_any (bytes_eq key) ks then None ∷ [] else [])
        by true is =
            let key_is : k ≡ key = sym (same_bytes (key_of change) k split.same) ∙ same_bytes (key_of change) key is in
            let whole : of_key key one ++ entry_of change ∷ of_key key two ≡ None ∷ [] =
            sym (apart_of key ∙ ap (λ (b : Bool). of_key key one ++ (if b then entry_of change ∷ of_key key two else of_key key two)) is) ∙ subst (λ (q : List ℕ). of_key q changes ≡ None ∷ []) key_is has in
            let many : length (of_key key one) + suc (length (of_key key two)) ≡ 1 = sym (length-append (of_key key one) (entry_of change ∷ of_key key two)) ∙ ap (λ (l : List KeyChange). length l) whole in
            let none1 : of_key key one ≡ [] = empty_of (of_key key one) (omega (arith, many)) in
            let none2 : of_key key two ≡ [] = empty_of (of_key key two) (omega (arith, many)) in
            ap (λ (l : List KeyChange). l ++ of_key key two) none1 ∙ none2 ∙ ap (λ (b : Bool). if b then None ∷ [] else []) (sym (subst (λ (q : List ℕ). list_any (bytes_eq q) ks ≡ false) key_is once.0))
        by false is =
            let other : bytes_eq key k ≡ false = bytes_eq-sym key k ∙ subst (λ (q : List ℕ). bytes_eq q key ≡ false) (same_bytes (key_of change) k split.same) is in
            sym (apart_of key ∙ ap (λ (b : Bool). of_key key one ++ (if b then entry_of change ∷ of_key key two else of_key key two)) is)
            ∙ each key ∙ ap (λ (b : Bool). if b || list_any (bytes_eq key) ks then None ∷ [] else []) other

-- the removals of keys that have no change yet
abbrev pub rest_of : List Change → List (List ℕ) → List Change
rest_of changes [] = []
rest_of changes (k ∷ ks) = if has_some (of_key k changes) then rest_of changes ks else Remove k ∷ rest_of (changes ++ Remove k ∷ []) ks

-- with them each of the keys has one
pub completes : (ks : List (List ℕ)) (changes : List Change) (key : List ℕ) → of_key key (changes ++ rest_of changes ks) ≡ (if has_some (of_key key changes) then of_key key changes else (if list_any (bytes_eq key) ks then None ∷ [] else []))
completes [] changes key = ap (of_key key) (append-nil changes) ∙ by (has_some (of_key key changes)) refl
  where
    by : (b : Bool) → has_some (of_key key changes) ≡ b → of_key key changes ≡ (if b then of_key key changes else [])
    by true is = refl
    by false is = has_none (of_key key changes) is
completes (k ∷ ks) changes key = by (has_some (of_key k changes)) refl (completes ks changes key) (completes ks (changes ++ Remove k ∷ []) key)
  where
    wanted : Bool → Bool → List KeyChange
    wanted has any = if has then of_key key changes else (if any then None ∷ [] else [])

    joined : Bool → List KeyChange
    joined b = of_key key changes ++ (if b then None ∷ [] else [])

    by : (b : Bool) → has_some (of_key k changes) ≡ b
        → of_key key (changes ++ rest_of changes ks) ≡ wanted (has_some (of_key key changes)) (list_any (bytes_eq key) ks)
        → of_key key ((changes ++ Remove k ∷ []) ++ rest_of (changes ++ Remove k ∷ []) ks) ≡ (if has_some (of_key key (changes ++ Remove k ∷ [])) then of_key key (changes ++ Remove k ∷ []) else (if list_any (bytes_eq key) ks then None ∷ [] else []))
        → of_key key (changes ++ (if b then rest_of changes ks else Remove k ∷ rest_of (changes ++ Remove k ∷ []) ks)) ≡ wanted (has_some (of_key key changes)) (bytes_eq key k || list_any (bytes_eq key) ks)
    by true is later more = later ∙ here (bytes_eq key k) refl
      where
        here : (c : Bool) → bytes_eq key k ≡ c → wanted (has_some (of_key key changes)) (list_any (bytes_eq key) ks) ≡ wanted (has_some (of_key key changes)) (c || list_any (bytes_eq key) ks)
        here true same = let has : has_some (of_key key changes) ≡ true = subst (λ (q : List ℕ). has_some (of_key q changes) ≡ true) (sym (same_bytes key k same)) is in
            ap (λ (h : Bool). wanted h (list_any (bytes_eq key) ks)) has ∙ ap (λ (h : Bool). wanted h true) (sym has)
        here false other = refl
    by false is later more =
        ap (of_key key) (sym (append_assoc changes (Remove k ∷ []) (rest_of (changes ++ Remove k ∷ []) ks)))
        ∙ more
        ∙ ap (λ (l : List KeyChange). if has_some l then l else (if list_any (bytes_eq key) ks then None ∷ [] else [])) (of_key-append key changes (Remove k ∷ []) ∙ ap joined (bytes_eq-sym k key))
        ∙ here (bytes_eq key k) refl
      where
        here : (c : Bool) → bytes_eq key k ≡ c → (if has_some (joined c) then joined c else (if list_any (bytes_eq key) ks then None ∷ [] else [])) ≡ wanted (has_some (of_key key changes)) (c || list_any (bytes_eq key) ks)
        here true same =
            let none : has_some (of_key key changes) ≡ false = subst (λ (q : List ℕ). has_some (of_key q changes) ≡ false) (sym (same_bytes key k same)) is in
            ap (λ (l : List KeyChange). if has_some (l ++ None ∷ []) then l ++ None ∷ [] else (if list_any (bytes_eq key) ks then None ∷ [] else [])) (has_none (of_key key changes) none)
            ∙ ap (λ (h : Bool). wanted h true) (sym none)
        here false other = ap (λ (l : List KeyChange). if has_some l then l else (if list_any (bytes_eq key) ks then None ∷ [] else [])) (append-nil (of_key key changes))

-- each effect has its changes in some order
pub any_order : (effect : Effect) → (changes : List Change) × IsOrder effect changes
any_order nothing = ([], λ key. refl)
any_order (puts key entry) = (Put key entry ∷ [], order_put key entry)
any_order (removes keys) = (rest_of [] keys, λ key. completes keys [] key)
