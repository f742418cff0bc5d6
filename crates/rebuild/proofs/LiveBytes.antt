-- How many bytes are live, once one item more is taken.
use Rattle.std.proofs.Common.{◌≡◌, ◌⊎◌, inl, inr, ⊎_elim, ℕ, ◌+◌, ◌≤◌, ◌==◌, ◌&&◌, Bool, true, false, cond, List, [], ◌∷◌, ◌++◌, length, Option, Some, None, Contains, is_some, refl, sym, ap, ◌∙◌, arith}
use Rattle.std.specs.Prelude.{sum_by, if◌then◌else◌}
use Rattle.std.proofs.lemmas.Bool.Decides.{nat_tests}
use Rattle.std.proofs.lemmas.List.Sums.{sum_by-cons, sum_by-le-sum_by, sum_by_push}
use Rattle.cache_model.specs.declared.index.IndexKey.{IndexKey}
use Rattle.cache_model.specs.declared.index.IndexValue.{IndexValue}
use Rattle.cache_model.specs.Items.{spelling}
use Rattle.cache_model.specs.Images.{key_of}
use Rattle.cache_model.proofs.Members.{among-none, among-here, among-later, among-cases}
use Rattle.tree_index.specs.Index.{Entries, Index, Sets, value_at}
use Rattle.rebuild.specs.Taking.{AreApart, Counted, IsEntryAmong, IsInFrontOf, IsIndexAmong, IsSamePlace, bytes_of, has_entry, live_of, live_part}
use Rattle.rebuild.proofs.Lookups.{cases-key, other-key}
use Rattle.rebuild.proofs.Indexing.{in-front-apart, place_of}
use Rattle.rebuild.proofs.IndexSteps.{apart-place, place-free}

-- a sum of the same parts is the same
sum-same : (f g : Counted → ℕ) (counted : List Counted) → ((one : Counted) → Contains counted one → g one ≡ f one) → sum_by g counted ≡ sum_by f counted
sum-same f g [] same = refl
sum-same f g (first ∷ counted) same =
    sum_by-cons g first counted
    ∙ ap (λ n. n + sum_by g counted) (same first (among-here first counted))
    ∙ ap (λ n. f first + n) (sum-same f g counted (λ one among. same one (among-later first one counted among)))
    ∙ sym (sum_by-cons f first counted)

-- where the part of one item alone differs, the sums differ by that
sum-flip : (f g : Counted → ℕ) (counted : List Counted) (one : Counted) → AreApart counted → Contains counted one → ((other : Counted) → Contains counted other → (IsSamePlace one other → ⊥) → g other ≡ f other)
    → sum_by g counted + f one ≡ sum_by f counted + g one
sum-flip f g [] one apart among same = absurd (among-none one among)
sum-flip f g (first ∷ counted) one apart among same = by (among-cases first one counted among) (λ later. sum-flip f g counted one apart.1 later (λ other there. same other (among-later first other counted there)))
  where
    heads : sum_by g (first ∷ counted) + f one ≡ (g first + sum_by g counted) + f one
    heads = ap (λ n. n + f one) (sum_by-cons g first counted)

    tails : (f first + sum_by f counted) + g one ≡ sum_by f (first ∷ counted) + g one
    tails = ap (λ n. n + g one) (sym (sum_by-cons f first counted))

    by : (first ≡ one) ⊎ Contains counted one → (Contains counted one → sum_by g counted + f one ≡ sum_by f counted + g one) → sum_by g (first ∷ counted) + f one ≡ sum_by f (first ∷ counted) + g one
    by (inl is) rest =
        let others = sum-same f g counted (λ other there. same other (among-later first other counted there) (λ place. apart.0 other there (ap (λ (c : Counted). c.number) is ∙ place.0, ap (λ (c : Counted). c.at) is ∙ place.1))) in
        heads ∙ omega (arith, others, ap f is, ap g is) ∙ tails
    by (inr later) rest =
        let differs = λ (place : IsSamePlace one first). apart.0 one later (sym place.0, sym place.1) in
        heads ∙ omega (arith, rest later, same first (among-here first counted) differs) ∙ tails

-- the part of an item in a file's bytes
abbrev pub part_of : ℕ → ℕ → ℕ → ℕ
part_of file bytes number = if file == number then bytes else 0

has-same : (bits : ℕ) (new old : Entries) (one : Counted) (found : Option (List ℕ)) → ((key : List ℕ) → found ≡ Some key → is_some (value_at new (place_of bits key one)) ≡ is_some (value_at old (place_of bits key one))) → has_entry bits new one.number one.at found ≡ has_entry bits old one.number one.at found
has-same bits new old one None same = refl
has-same bits new old one (Some key) same = same key refl

-- an item that has an entry as before has the same part
part-same : (bits number : ℕ) (new old : Entries) (one : Counted) → ((key : List ℕ) → key_of one.item ≡ Some key → is_some (value_at new (place_of bits key one)) ≡ is_some (value_at old (place_of bits key one))) → live_part bits new number one ≡ live_part bits old number one
part-same bits number new old one same = ap (λ b. if one.number == number && b then length (spelling one.item) else 0) (has-same bits new old one (key_of one.item) same)

-- an item with an entry has all of its bytes, and one without has none
part-with : (bits number : ℕ) (entries : Entries) (one : Counted) (key : List ℕ) (value : IndexValue) → key_of one.item ≡ Some key → value_at entries (place_of bits key one) ≡ Some value → live_part bits entries number one ≡ part_of one.number (length (spelling one.item)) number
part-with bits number entries one key value of_key held =
    ap (λ found. if one.number == number && has_entry bits entries one.number one.at found then length (spelling one.item) else 0) of_key
    ∙ ap (λ found. if one.number == number && is_some found then length (spelling one.item) else 0) held
    ∙ elim (one.number == number) as (λ b. cond (b && true) (length (spelling one.item)) 0 ≡ cond b (length (spelling one.item)) 0) [ true ↦ refl | false ↦ refl ]

none-part : (b : Bool) (n : ℕ) → cond (b && false) n 0 ≡ 0
none-part true n = refl
none-part false n = refl

part-without : (bits number : ℕ) (entries : Entries) (one : Counted) (key : List ℕ) → key_of one.item ≡ Some key → value_at entries (place_of bits key one) ≡ None → live_part bits entries number one ≡ 0
part-without bits number entries one key of_key held =
    ap (λ found. if one.number == number && has_entry bits entries one.number one.at found then length (spelling one.item) else 0) of_key
    ∙ ap (λ found. if one.number == number && is_some found then length (spelling one.item) else 0) held
    ∙ none-part (one.number == number) (length (spelling one.item))

part-none : (bits number : ℕ) (entries : Entries) (one : Counted) → key_of one.item ≡ None → live_part bits entries number one ≡ 0
part-none bits number entries one none =
    ap (λ found. if one.number == number && has_entry bits entries one.number one.at found then length (spelling one.item) else 0) none ∙ none-part (one.number == number) (length (spelling one.item))

-- no more bytes of a file are live than its items have
pub live-most : (bits number : ℕ) (entries : Entries) (counted : List Counted) → live_of bits entries number counted ≤ bytes_of number counted
live-most bits number entries counted =
    sum_by-le-sum_by (live_part bits entries number) (λ one. if one.number == number then length (spelling one.item) else 0) counted
    (λ one. elim (one.number == number) as (λ b. cond (b && has_entry bits entries one.number one.at (key_of one.item)) (length (spelling one.item)) 0 ≤ cond b (length (spelling one.item)) 0) [
      | true ↦ elim (has_entry bits entries one.number one.at (key_of one.item)) as (λ c. cond c (length (spelling one.item)) 0 ≤ length (spelling one.item)) [ true ↦ omega arith | false ↦ omega arith ]
      | false ↦ omega arith
    ])

-- of no items of a file nothing is live
pub live-none : (bits number : ℕ) (entries : Entries) (counted : List Counted) → ((one : Counted) → Contains counted one → one.number ≡ number → ⊥) → live_of bits entries number counted ≡ 0
live-none bits number entries [] none = refl
live-none bits number entries (first ∷ counted) none =
    let here : live_part bits entries number first ≡ 0 = ap (λ b. if b && has_entry bits entries first.number first.at (key_of first.item) then length (spelling first.item) else 0) (apart first.number (none first (among-here first counted))) in
    let rest : live_of bits entries number counted ≡ 0 = live-none bits number entries counted (λ one among. none one (among-later first one counted among)) in
    sum_by-cons (live_part bits entries number) first counted ∙ ap (λ n. n + live_of bits entries number counted) here ∙ ap (λ n. 0 + n) rest ∙ omega arith
  where
    apart : (n : ℕ) → (n ≡ number → ⊥) → (n == number) ≡ false
    apart n differs = grind (arith, nat_tests)

some-if : (found : Option IndexValue) (value : IndexValue) → found ≡ Some value → is_some found ≡ true
some-if found value is = ap (λ (o : Option IndexValue). is_some o) is

module _ (counted : List Counted) (one : Counted) (bits : ℕ) (old : Index) (index : IsIndexAmong counted bits old.entries) (behind : (other : Counted) → Contains counted other → IsInFrontOf other one) where
  abbrev more : List Counted
  more = counted ++ one ∷ []

  pushed : (entries : Entries) (number : ℕ) → live_of bits entries number more ≡ live_of bits entries number counted + live_part bits entries number one
  pushed entries number = sum_by_push (live_part bits entries number) counted one

  -- an end is never live
  pub live-end : key_of one.item ≡ None → (number : ℕ) → live_of bits old.entries number more ≡ live_of bits old.entries number counted
  live-end none number = pushed old.entries number ∙ ap (λ n. live_of bits old.entries number counted + n) (part-none bits number old.entries one none) ∙ omega arith

  module _ (key : List ℕ) (of_key : key_of one.item ≡ Some key) where
    abbrev here : IndexKey
    here = place_of bits key one

    -- an earlier item has its entry elsewhere
    elsewhere : (other : Counted) (k : List ℕ) → Contains counted other → here ≡ place_of bits k other → ⊥
    elsewhere other k among same = in-front-apart other one (behind other among) (sym (ap (λ (p : IndexKey). p.file) same), sym (ap (λ (p : IndexKey). p.at) same))

    -- all bytes of a new entry are live
    pub live-first : (new : Index) (value : IndexValue) → Sets here (Some value) old new → (number : ℕ) → live_of bits new.entries number more ≡ live_of bits old.entries number counted + part_of one.number (length (spelling one.item)) number
    live-first new value sets number =
        pushed new.entries number
        ∙ ap (λ n. n + live_part bits new.entries number one) (sum-same (live_part bits old.entries number) (live_part bits new.entries number) counted
        (λ other among. part-same bits number new.entries old.entries other (λ k is. ap (λ (o : Option IndexValue). is_some o) (other-key here (Some value) old new (place_of bits k other) sets (elsewhere other k among)))))
        ∙ ap (λ n. live_of bits old.entries number counted + n) (part-with bits number new.entries one key value of_key sets.here)

    module _ (place0 : IndexKey) (value0 : IndexValue) (held0 : value_at old.entries place0 ≡ Some value0) (entry0 : IsEntryAmong counted bits key place0 value0) where
      -- nothing changes where an older record is counted
      pub live-raised : (new : Index) (value : IndexValue) → Sets place0 (Some value) old new → (number : ℕ) → live_of bits new.entries number more ≡ live_of bits old.entries number counted
      live-raised new value sets number =
          pushed new.entries number
          ∙ ap (λ n. n + live_part bits new.entries number one) (sum-same (live_part bits old.entries number) (live_part bits new.entries number) counted
          (λ other among. part-same bits number new.entries old.entries other (λ k is. same (place_of bits k other))))
          ∙ ap (λ n. live_of bits old.entries number counted + n) (part-without bits number new.entries one key of_key (other-key place0 (Some value) old new here sets beside ∙ free (value_at old.entries here) refl))
          ∙ omega arith
        where
          beside : place0 ≡ here → ⊥
          beside is = apart-place counted one bits old index behind key of_key place0 value0 held0 entry0 (sym is)

          free : (found : Option IndexValue) → value_at old.entries here ≡ found → value_at old.entries here ≡ None
          free None is = is
          free (Some v) is = absurd (place-free counted one bits old index behind key v is)

          same : (place : IndexKey) → is_some (value_at new.entries place) ≡ is_some (value_at old.entries place)
          same place = ⊎_elim
              (λ (is : place0 ≡ place). some-if (value_at new.entries place) value (sym (ap (λ p. value_at new.entries p) is) ∙ sets.here) ∙ sym (some-if (value_at old.entries place) value0 (sym (ap (λ p. value_at old.entries p) is) ∙ held0)))
              (λ differs. ap (λ (o : Option IndexValue). is_some o) (other-key place0 (Some value) old new place sets differs.0))
              (cases-key place0 place)

      -- the bytes of a new entry are live, and those of the one whose place it takes aren't any more
      pub live-replaced : (between new : Index) (value : IndexValue) → Sets here (Some value) old between → Sets place0 None between new → (number : ℕ)
          → live_of bits new.entries number more + part_of place0.file value0.length number ≡ live_of bits old.entries number counted + part_of one.number (length (spelling one.item)) number
      live-replaced between new value puts takes number =
          let flip = sum-flip (live_part bits old.entries number) (live_part bits new.entries number) counted (record { number = place0.file; at = place0.at; item = entry0.item }) index.apart entry0.among same in
          omega (arith, flip, was_live, not_live, pushed new.entries number, is_live)
        where
          -- its place is that of its entry
          placed : (entries : Entries) (found : Option IndexValue) → value_at entries place0 ≡ found → value_at entries (place_of bits key (record { number = place0.file; at = place0.at; item = entry0.item })) ≡ found
          placed entries found is = ap (λ n. value_at entries (record { hash = n; file = place0.file; at = place0.at })) (sym entry0.hashed) ∙ is

          same : (other : Counted) → Contains counted other → (IsSamePlace (record { number = place0.file; at = place0.at; item = entry0.item }) other → ⊥) → live_part bits new.entries number other ≡ live_part bits old.entries number other
          same other among differs = part-same bits number new.entries old.entries other
              (λ k is. ap (λ (o : Option IndexValue). is_some o)
              (other-key place0 None between new (place_of bits k other) takes (λ there. differs (ap (λ (p : IndexKey). p.file) there, ap (λ (p : IndexKey). p.at) there))
              ∙ other-key here (Some value) old between (place_of bits k other) puts (elsewhere other k among)))

          was_live : live_part bits old.entries number (record { number = place0.file; at = place0.at; item = entry0.item }) ≡ part_of place0.file value0.length number
          was_live = part-with bits number old.entries _ key value0 entry0.of_key (placed old.entries (Some value0) held0) ∙ ap (λ n. part_of place0.file n number) (sym entry0.long)

          not_live : live_part bits new.entries number (record { number = place0.file; at = place0.at; item = entry0.item }) ≡ 0
          not_live = part-without bits number new.entries _ key entry0.of_key (placed new.entries None takes.here)

          apart_here : place0 ≡ here → ⊥
          apart_here is = apart-place counted one bits old index behind key of_key place0 value0 held0 entry0 (sym is)

          is_live : live_part bits new.entries number one ≡ part_of one.number (length (spelling one.item)) number
          is_live = part-with bits number new.entries one key value of_key (other-key place0 None between new here takes apart_here ∙ puts.here)
