-- The first key of the least hash behind another is the first behind it of all entries.
use Rattle.std.proofs.Common.{◌≡◌, ◌⊎◌, inl, inr, ⊎_elim, ℕ, ◌<◌, ◌≤◌, Bool, true, false, List, Option, Some, None, refl, sym, ◌∙◌, ap, subst, arith}
use Rattle.std.specs.Prelude.{is_some, nat_eq, option_map, Result}
use Rattle.std.specs.Ordering.{nat_cmp, ordering_then, is_gt}
use Rattle.std.specs.declared.cmp.Ordering.{Ordering}
use Rattle.std.specs.declared.cmp.Ordering.TheVariants.{Less, Equal, Greater}
use Rattle.std.proofs.Math.Nat.{eq-or-lt_of_le}
use Rattle.std.proofs.lemmas.Bool.{lt-ltb, ltb-true}
use Rattle.std.proofs.lemmas.Bool.Decides.{nat_tests}
use Rattle.std.proofs.lemmas.Cmp.{ranked}
use Rattle.std.proofs.lemmas.Result.{IfOk-weaker}
use Rattle.cache_model.specs.declared.faults.Damage.{Damage}
use Rattle.cache_model.specs.declared.faults.StoreFault.{StoreFault}
use Rattle.cache_model.specs.declared.index.IndexKey.{IndexKey}
use Rattle.cache_model.specs.declared.index.IndexValue.{IndexValue}
use Rattle.cache_model.specs.Files.{Image}
use Rattle.cache_model.specs.Items.{Item}
use Rattle.cache_model.specs.Images.{key_of}
use Rattle.cache_model.specs.Hash.{hash, precedes}
use Rattle.record_format.specs.declared.items.OwnItem.{OwnItem}
use Rattle.record_format.specs.Meaning.{own_item}
use Rattle.temporary_table.proofs.Ordered.{never}
use Rattle.temporary_table.proofs.Walks.{precedes_within, precedes_lower, lower_test}
use Rattle.tree_index.specs.Index.{Entries, index_cmp, value_at, AreOrdered, entries_of, IsAbove, IsNext}
use Rattle.compactor.specs.Counting.{IsFileNumber}
use Rattle.compactor.specs.Walking.{HasKeyAt, AreHashed, IsFirstKey, Seeks, end_of, is_above, is_beyond, is_lower}
use Rattle.compactor.specs.Finding.{IsDamagedEntry}
use Rattle.compactor.proofs.Entries.{held, held_all, among_all, among_if_held, among-filter}
use Rattle.compactor.proofs.FirstKey.{read_once, some_key}

-- An entry above the end of a hash has a greater hash,
hash_above : (least : ℕ) (at : IndexKey) → IsFileNumber at.file → index_cmp (end_of least) at ≡ Less → least < at.hash
hash_above least at number less = by (nat_cmp least at.hash) refl (nat_cmp 4294967295 at.file) refl less
  where
    by : (o : Ordering) → nat_cmp least at.hash ≡ o → (f : Ordering) → nat_cmp 4294967295 at.file ≡ f → ordering_then o (ordering_then f (nat_cmp 4294967295 at.at)) ≡ Less → least < at.hash
    by Less is f file l = ranked least at.hash Less (sym is)
    by Greater is f file l = cc
    by Equal is Less file l = let more : 4294967295 < at.file = ranked 4294967295 at.file Less (sym file) in absurd (omega (arith, number.1, more))
    by Equal is Equal file l = let same : 4294967295 ≡ at.file = ranked 4294967295 at.file Equal (sym file) in absurd (omega (arith, number.1, same))
    by Equal is Greater file l = cc

-- one with a greater hash is above it,
above_hash : (least : ℕ) (at : IndexKey) → least < at.hash → index_cmp (end_of least) at ≡ Less
above_hash least at more = by (nat_cmp least at.hash) refl
  where
    by : (o : Ordering) → nat_cmp least at.hash ≡ o → ordering_then o (ordering_then (nat_cmp 4294967295 at.file) (nat_cmp 4294967295 at.at)) ≡ Less
    by Less is = refl
    by Equal is = let same : least ≡ at.hash = ranked least at.hash Equal (sym is) in absurd (omega (arith, same, more))
    by Greater is = let less : at.hash < least = ranked least at.hash Greater (sym is) in absurd (omega (arith, less, more))

-- and the least has no greater hash than the others.
hash_most : (one other : IndexKey) → is_gt (index_cmp one other) ≡ false → one.hash ≤ other.hash
hash_most one other not = by (nat_cmp one.hash other.hash) refl not
  where
    by : (o : Ordering) → nat_cmp one.hash other.hash ≡ o → is_gt (ordering_then o (ordering_then (nat_cmp one.file other.file) (nat_cmp one.at other.at))) ≡ false → one.hash ≤ other.hash
    by Less is n = let less : one.hash < other.hash = ranked one.hash other.hash Less (sym is) in omega arith
    by Equal is n = let same : one.hash ≡ other.hash = ranked one.hash other.hash Equal (sym is) in omega arith
    by Greater is n = cc

module _ (files : Image) (bits : ℕ) (entries : Entries) (ordered : AreOrdered entries) (hashed : AreHashed files bits entries) where
  -- an entry has the hash of its record's key
  pub its_hash : (e : IndexKey × IndexValue) (key : List ℕ) (item : Item) → HasKeyAt files entries e key item → e.0.hash ≡ hash bits key
  its_hash e key item has =
      let own = hashed e has.within in
      let same : own.1 ≡ item = read_once files e own.1 item e.1.length e.1.length own.2.read has.read in
      let keys : own.0 ≡ key = some_key own.0 key (sym own.2.of_key ∙ ap key_of same ∙ has.of_key) in
      own.3 ∙ ap (λ (k : List ℕ). hash bits k) keys

  -- the entries of a hash are those of the index that have it
  pub of_hash : (h : ℕ) (e : IndexKey × IndexValue) (key : List ℕ) (item : Item) → HasKeyAt files (entries_of h entries) e key item → HasKeyAt files entries e key item × (e.0.hash ≡ h)
  of_hash h e key item has = (record { within = among_all entries h e has.within; read = has.read; of_key = has.of_key }, (held entries ordered h e has.within).1)

  pub in_hash : (h : ℕ) (e : IndexKey × IndexValue) (key : List ℕ) (item : Item) → HasKeyAt files entries e key item → e.0.hash ≡ h → HasKeyAt files (entries_of h entries) e key item
  in_hash h e key item has same = record {
    within = among-filter (λ d. nat_eq d.0.hash h) entries e has.within (let test : nat_eq e.0.hash h ≡ true = grind (arith, nat_tests) in test);
    read = has.read;
    of_key = has.of_key;
  }

  pub damaged_of : (h : ℕ) (d : Damage) → IsDamagedEntry files (entries_of h entries) d → IsDamagedEntry files entries d
  damaged_of h d damaged = (damaged.0, among_all entries h damaged.0 damaged.1, damaged.2)

  module _ (numbers : (at : IndexKey) (value : IndexValue) → value_at entries at ≡ Some value → IsFileNumber at.file) (least : Option ℕ) where
    -- the entry above has a hash behind the other
    beyond_above : (o : Option ℕ) (at : IndexKey) → IsFileNumber at.file → IsAbove (option_map end_of o) at → (key : List ℕ) → at.hash ≡ hash bits key → is_beyond bits o key ≡ true
    beyond_above None at number above key same = refl
    beyond_above (Some h) at number above key same = lt-ltb h (hash bits key) (subst (λ (n : ℕ). h < n) same (hash_above h at number above))

    above_beyond : (o : Option ℕ) (at : IndexKey) (key : List ℕ) → at.hash ≡ hash bits key → is_beyond bits o key ≡ true → IsAbove (option_map end_of o) at
    above_beyond None at key same beyond = tt
    above_beyond (Some h) at key same beyond = above_hash h at (subst (λ (n : ℕ). h < n) (sym same) (ltb-true h (hash bits key) beyond))

    -- Where no entry is above, no key is beyond,
    pub none_beyond : IsNext entries (option_map end_of least) None → IsFirstKey files (is_beyond bits least) (precedes bits) entries None
    none_beyond none e key item has = by (is_beyond bits least key) refl
      where
        by : (b : Bool) → is_beyond bits least key ≡ b → b ≡ false
        by false is = refl
        by true is =
            let away : value_at entries e.0 ≡ None = none e.0 (above_beyond least e.0 key (its_hash e key item has) is) in
            let no : None ≡ Some e.1 = sym away ∙ held_all entries ordered e has.within in
            cc

    -- and else the first key of the least hash is the first beyond.
    pub first_beyond : (next : IndexKey × IndexValue) (first : Option OwnItem) → IsNext entries (option_map end_of least) (Some next)
        → IsFirstKey files (is_above None) is_lower (entries_of next.0.hash entries) first → IsFirstKey files (is_beyond bits least) (precedes bits) entries first
    first_beyond next None is none =
        let own = hashed next (among_if_held entries next.0 next.1 is.1) in
        absurd (never (none next own.0 own.1 (in_hash next.0.hash next own.0 own.1 own.2 refl)))
    first_beyond next (Some first) is best = (best.0, best.1, has.0, beyond_above least next.0 (numbers next.0 next.1 is.1) is.0 best.1 (sym key_hash), each)
      where
        has : HasKeyAt files entries best.0 best.1 (own_item first) × (best.0.0.hash ≡ next.0.hash)
        has = of_hash next.0.hash best.0 best.1 (own_item first) best.2

        key_hash : hash bits best.1 ≡ next.0.hash
        key_hash = sym (its_hash best.0 best.1 (own_item first) has.0) ∙ has.1

        each : (d : IndexKey × IndexValue) (other : List ℕ) (item : Item) → HasKeyAt files entries d other item → is_beyond bits least other ≡ true → (other ≡ best.1) ⊎ (precedes bits best.1 other ≡ true)
        each d other item has_other beyond = ⊎_elim beside behind (eq-or-lt_of_le (hash_most next.0 d.0 (is.2 d.0 (above_beyond least d.0 other its beyond) (ap is_some (held_all entries ordered d has_other.within)))))
          where
            its : d.0.hash ≡ hash bits other
            its = its_hash d other item has_other

            beside : next.0.hash ≡ d.0.hash → (other ≡ best.1) ⊎ (precedes bits best.1 other ≡ true)
            beside same = ⊎_elim (λ own. inl own) (λ lower. inr (precedes_within bits best.1 other (key_hash ∙ same ∙ its) lower)) (best.4 d other item (in_hash next.0.hash d other item has_other (sym same)) refl)

            behind : next.0.hash < d.0.hash → (other ≡ best.1) ⊎ (precedes bits best.1 other ≡ true)
            behind less =
                let lower : hash bits best.1 < hash bits other = omega (arith, less, key_hash, its) in
                inr (precedes_lower bits best.1 other (lower_test (hash bits best.1) (hash bits other) ∙ lt-ltb (hash bits best.1) (hash bits other) lower))

-- What is sought among the entries of the least hash is sought among all.
pub seeks_beyond : (bits : ℕ) (entries : Entries) (files : Image) (result : Result (Option OwnItem) StoreFault) → AreOrdered entries → AreHashed files bits entries
    → ((at : IndexKey) (value : IndexValue) → value_at entries at ≡ Some value → IsFileNumber at.file) → (least : Option ℕ) (next : IndexKey × IndexValue) → IsNext entries (option_map end_of least) (Some next)
    → Seeks (IsFirstKey files (is_above None) is_lower (entries_of next.0.hash entries)) (entries_of next.0.hash entries) files result
    → Seeks (IsFirstKey files (is_beyond bits least) (precedes bits) entries) entries files result
seeks_beyond bits entries files result ordered hashed numbers least next is seeks = record {
  given = IfOk-weaker result (IsFirstKey files (is_above None) is_lower (entries_of next.0.hash entries)) (IsFirstKey files (is_beyond bits least) (precedes bits) entries)
      (λ first. first_beyond files bits entries ordered hashed numbers least next first is) seeks.given;
  damaged = λ d err. damaged_of files bits entries ordered hashed next.0.hash d (seeks.damaged d err);
}
