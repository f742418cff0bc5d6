-- What the index holds once an entry is put and the stale one is gone.
use Rattle.std.proofs.Common.{◌≡◌, ◌⊎◌, inl, inr, Bool, true, false, Option, Some, None, refl, sym, ◌∙◌, ap, subst}
use Rattle.std.specs.Prelude.{cond}
use Rattle.cache_model.specs.declared.index.IndexKey.{IndexKey}
use Rattle.cache_model.specs.declared.index.IndexValue.{IndexValue}
use Rattle.tree_index.specs.Index.{Index, AreOrdered, Sets, is_key, value_at}
use Rattle.compactor.specs.declared.finding.FoundEntry.{FoundEntry}
use Rattle.compactor.specs.Entering.{Row, Drops, IsHeld, Puts, stale_by, with_put, with_taken}
use Rattle.compactor.proofs.Entries.{same_key, key_itself}

-- what is held once an entry is put,
pub values_put : (put : Option Row) (old new : Index) → Puts put old new → (at : IndexKey) → value_at new.entries at ≡ with_put put at (value_at old.entries at)
values_put None old new same at = ap (λ (i : Index). value_at i.entries at) same
values_put (Some row) old new sets at = sets.each at

-- and once one is taken out
pub values_taken : (taken : Option Row) (old new : Index) → Drops taken old new → (at : IndexKey) → value_at new.entries at ≡ with_taken taken at (value_at old.entries at)
values_taken None old new same at = ap (λ (i : Index). value_at i.entries at) same
values_taken (Some row) old new sets at = sets.each at

pub bits_put : (put : Option Row) (old new : Index) → Puts put old new → new.bits ≡ old.bits
bits_put None old new same = ap (λ (i : Index). i.bits) same
bits_put (Some row) old new sets = sets.bits

bits_taken : (taken : Option Row) (old new : Index) → Drops taken old new → new.bits ≡ old.bits
bits_taken None old new same = ap (λ (i : Index). i.bits) same
bits_taken (Some row) old new sets = sets.bits

-- both go by the same bits,
pub same_bits : (put taken : Option Row) (old mid new : Index) → Puts put old mid → Drops taken mid new → new.bits ≡ old.bits
same_bits put taken old mid new puts drops = bits_taken taken mid new drops ∙ bits_put put old mid puts

-- and keep the order
ordered_put : (put : Option Row) (old new : Index) → Puts put old new → AreOrdered old.entries → AreOrdered new.entries
ordered_put None old new same ordered = subst (λ (i : Index). AreOrdered i.entries) (sym same) ordered
ordered_put (Some row) old new sets ordered = sets.ordered

ordered_taken : (taken : Option Row) (old new : Index) → Drops taken old new → AreOrdered old.entries → AreOrdered new.entries
ordered_taken None old new same ordered = subst (λ (i : Index). AreOrdered i.entries) (sym same) ordered
ordered_taken (Some row) old new sets ordered = sets.ordered

pub still_ordered : (put taken : Option Row) (old mid new : Index) → Puts put old mid → Drops taken mid new → AreOrdered old.entries → AreOrdered new.entries
still_ordered put taken old mid new puts drops ordered = ordered_taken taken mid new drops (ordered_put put old mid puts ordered)

-- what is held is what was put, or was held before
pub held_or_put : (put taken : Option Row) (old mid new : Index) → Puts put old mid → Drops taken mid new → (at : IndexKey) (value : IndexValue) → value_at new.entries at ≡ Some value
    → ((row : Row) × (put ≡ Some row) × (at ≡ row.0)) ⊎ (value_at old.entries at ≡ Some value)
held_or_put put taken old mid new puts drops at value here = was_put put (value_at old.entries at) (was_taken taken (sym (values_taken taken mid new drops at) ∙ here)) (values_put put old mid puts at)
  where
    kept : (b : Bool) (held : Option IndexValue) → cond b None held ≡ Some value → held ≡ Some value
    kept true held is = let none : None ≡ Some value = is in cc
    kept false held is = is

    was_taken : (t : Option Row) → with_taken t at (value_at mid.entries at) ≡ Some value → value_at mid.entries at ≡ Some value
    was_taken None is = is
    was_taken (Some row) is = kept (is_key row.0 at) (value_at mid.entries at) is

    was_put : (p : Option Row) (held : Option IndexValue) → value_at mid.entries at ≡ Some value → value_at mid.entries at ≡ with_put p at held
        → ((row : Row) × (p ≡ Some row) × (at ≡ row.0)) ⊎ (held ≡ Some value)
    was_put None held is each = inr (sym each ∙ is)
    was_put (Some row) held is each = by (is_key row.0 at) refl (sym each ∙ is)
      where
        by : (b : Bool) → is_key row.0 at ≡ b → cond b (Some row.1) held ≡ Some value → ((r : Row) × (Some row ≡ Some r) × (at ≡ r.0)) ⊎ (held ≡ Some value)
        by true same holds = inl (row, refl, sym (same_key row.0 at same))
        by false apart holds = inr holds

-- whether an entry is the one that was found
abbrev pub is_found : Option FoundEntry → IndexKey → Bool
is_found None at = false
is_found (Some found) at = is_key found.at at

module _ (fresh : IndexKey) (entry : IndexValue) (found : Option FoundEntry) (old mid new : Index) (puts : Puts (Some (fresh, entry)) old mid) (drops : Drops (stale_by found (Some (fresh, entry))) mid new) where
  -- what is held under a key: the new entry, nothing where the old one was, and else what was held
  abbrev value_by : Bool → Bool → Option IndexValue → Option IndexValue
  value_by is_fresh is_old held = cond is_fresh (Some entry) (cond is_old None held)

  same_twice : (b : Bool) (held : Option IndexValue) → cond b (Some entry) held ≡ value_by b b held
  same_twice true held = refl
  same_twice false held = refl

  either_way : (is_fresh is_old : Bool) (held : Option IndexValue) → (is_fresh ≡ true → is_old ≡ true → ⊥) → cond is_old None (cond is_fresh (Some entry) held) ≡ value_by is_fresh is_old held
  either_way true true held both = absurd (both refl refl)
  either_way true false held both = refl
  either_way false is_old held both = refl

  pub values : (at : IndexKey) → value_at new.entries at ≡ value_by (is_key fresh at) (is_found found at) (value_at old.entries at)
  values at = by found drops
    where
      put : value_at mid.entries at ≡ cond (is_key fresh at) (Some entry) (value_at old.entries at)
      put = puts.each at

      dropped_at : (k : IndexKey) → is_key k fresh ≡ false → Sets k None mid new → value_at new.entries at ≡ value_by (is_key fresh at) (is_key k at) (value_at old.entries at)
      dropped_at k apart sets =
          sets.each at
          ∙ ap (λ (o : Option IndexValue). cond (is_key k at) None o) put
          ∙ either_way (is_key fresh at) (is_key k at) (value_at old.entries at) (λ one other. (
          let same : k ≡ fresh = same_key k at other ∙ sym (same_key fresh at one) in
          let both : true ≡ false = sym (key_itself fresh) ∙ ap (λ (x : IndexKey). is_key x fresh) (sym same) ∙ apart in
          cc))

      by_found : (f : FoundEntry) (b : Bool) → is_key f.at fresh ≡ b → Drops (cond b None (Some (f.at, f.value))) mid new → value_at new.entries at ≡ value_by (is_key fresh at) (is_key f.at at) (value_at old.entries at)
      by_found f true same dropped =
          ap (λ (i : Index). value_at i.entries at) dropped
          ∙ put
          ∙ same_twice (is_key fresh at) (value_at old.entries at)
          ∙ ap (λ (k : IndexKey). value_by (is_key fresh at) (is_key k at) (value_at old.entries at)) (sym (same_key f.at fresh same))
      by_found f false apart dropped = dropped_at f.at apart dropped

      by : (f : Option FoundEntry) → Drops (stale_by f (Some (fresh, entry))) mid new → value_at new.entries at ≡ value_by (is_key fresh at) (is_found f at) (value_at old.entries at)
      by None dropped = ap (λ (i : Index). value_at i.entries at) dropped ∙ put
      by (Some f) dropped = by_found f (is_key f.at fresh) refl dropped

  -- the new entry is held,
  pub holds_fresh : value_at new.entries fresh ≡ Some entry
  holds_fresh = values fresh ∙ ap (λ (b : Bool). value_by b (is_found found fresh) (value_at old.entries fresh)) (key_itself fresh)

  -- what else is held was, and isn't the entry that was found,
  pub held_before : (at : IndexKey) (value : IndexValue) → value_at new.entries at ≡ Some value → ((at ≡ fresh) × (value ≡ entry)) ⊎ ((value_at old.entries at ≡ Some value) × (is_found found at ≡ false))
  held_before at value is = by (is_key fresh at) refl (is_found found at) refl (sym (values at) ∙ is)
    where
      by : (b : Bool) → is_key fresh at ≡ b → (f : Bool) → is_found found at ≡ f → value_by b f (value_at old.entries at) ≡ Some value → ((at ≡ fresh) × (value ≡ entry)) ⊎ ((value_at old.entries at ≡ Some value) × (is_found found at ≡ false))
      by true same f stale_is holds = inl (sym (same_key fresh at same), (let back : Some entry ≡ Some value = holds in cc))
      by false apart true stale_is holds = let none : None ≡ Some value = holds in cc
      by false apart false stale_is holds = inr (holds, stale_is)

  -- and all else that was held is.
  pub held_still : (at : IndexKey) (value : IndexValue) → value_at old.entries at ≡ Some value → (fresh ≡ at → ⊥) → is_found found at ≡ false → value_at new.entries at ≡ Some value
  held_still at value is apart other = values at ∙ by (is_key fresh at) refl
    where
      by : (b : Bool) → is_key fresh at ≡ b → value_by b (is_found found at) (value_at old.entries at) ≡ Some value
      by true same = absurd (apart (same_key fresh at same))
      by false unlike = ap (λ (f : Bool). value_by false f (value_at old.entries at)) other ∙ is

-- what was put is held,
pub put_held : (put : Option Row) (found : Option FoundEntry) (old mid new : Index) → Puts put old mid → Drops (stale_by found put) mid new → (row : Row) → put ≡ Some row → value_at new.entries row.0 ≡ Some row.1
put_held None found old mid new puts drops row is = cc
put_held (Some one) found old mid new puts drops row is =
    let same : one ≡ row = cc in
    subst (λ (r : Row). value_at new.entries r.0 ≡ Some r.1) same (holds_fresh one.0 one.1 found old mid new puts drops)

-- and what is stale was, until it is taken out
pub stale_held : (put : Option Row) (found : Option FoundEntry) (old mid : Index) → IsHeld old.entries found → Puts put old mid → (row : Row) → stale_by found put ≡ Some row → (value_at mid.entries row.0 ≡ Some row.1) × (value_at old.entries row.0 ≡ Some row.1)
stale_held None None old mid held puts row is = cc
stale_held (Some one) None old mid held puts row is = cc
stale_held None (Some f) old mid held puts row is = cc
stale_held (Some one) (Some f) old mid held puts row is = by (is_key f.at one.0) refl is
  where
    unlike : is_key f.at one.0 ≡ false → (b : Bool) → is_key one.0 f.at ≡ b → b ≡ false
    unlike apart true same = let both : true ≡ false = sym (key_itself f.at) ∙ ap (λ (k : IndexKey). is_key f.at k) (sym (same_key one.0 f.at same)) ∙ apart in cc
    unlike apart false other = refl

    by : (b : Bool) → is_key f.at one.0 ≡ b → cond b None (Some (f.at, f.value)) ≡ Some row → (value_at mid.entries row.0 ≡ Some row.1) × (value_at old.entries row.0 ≡ Some row.1)
    by true same none = cc
    by false apart some =
        let row_is : (f.at, f.value) ≡ row = cc in
        let kept : value_at mid.entries f.at ≡ Some f.value = puts.each f.at ∙ ap (λ (b : Bool). cond b (Some one.1) (value_at old.entries f.at)) (unlike apart (is_key one.0 f.at) refl) ∙ held in
        subst (λ (r : Row). (value_at mid.entries r.0 ≡ Some r.1) × (value_at old.entries r.0 ≡ Some r.1)) row_is (kept, held)
