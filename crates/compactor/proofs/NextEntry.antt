-- The first key behind another among all entries is that of its own hash, where there is one, and else of the next.
use Rattle.std.proofs.Common.{◌≡◌, ◌⊎◌, inl, inr, ⊎_elim, ℕ, Bool, true, false, List, [], Option, Some, None, refl, sym, ◌∙◌, ap, subst}
use Rattle.std.specs.Prelude.{take, drop, unwrap_or, Result, Ok, Err}
use Rattle.std.specs.Ordering.{nat_cmp, is_lt}
use Rattle.std.proofs.lemmas.Result.{IfOk-weaker}
use Rattle.cache_model.specs.declared.faults.Damage.{Damage}
use Rattle.cache_model.specs.declared.faults.StoreFault.{StoreFault}
use Rattle.cache_model.specs.declared.faults.StoreFault.TheVariants as fault
use Rattle.cache_model.specs.declared.index.IndexKey.{IndexKey}
use Rattle.cache_model.specs.declared.index.IndexValue.{IndexValue}
use Rattle.cache_model.specs.Files.{Image}
use Rattle.cache_model.specs.Items.{Item, Front, front}
use Rattle.cache_model.specs.Images.{log_name}
use Rattle.cache_model.specs.Hash.{hash, precedes, follows}
use Rattle.cache_disk.specs.State.{SameFiles}
use Rattle.record_format.specs.declared.items.OwnItem.{OwnItem}
use Rattle.record_format.specs.Meaning.{own_item}
use Rattle.data_file.specs.Fetching.{wrong_with}
use Rattle.temporary_table.proofs.Ordered.{never}
use Rattle.temporary_table.proofs.Walks.{precedes_within, precedes_lower, precedes_either, lower_test}
use Rattle.tree_index.specs.Index.{Entries, AreOrdered, entries_of}
use Rattle.compactor.specs.Walking.{HasKeyAt, AreHashed, IsFirstKey, Seeks, is_above, is_beyond, is_lower}
use Rattle.compactor.specs.Finding.{entry_front, IsDamagedEntry}
use Rattle.compactor.proofs.Searching.{same_fault}
use Rattle.compactor.proofs.NextHash.{its_hash, of_hash, in_hash, damaged_of}

module _ (files : Image) (bits : ℕ) (entries : Entries) (ordered : AreOrdered entries) (hashed : AreHashed files bits entries) (after : List ℕ) where
  -- what is first beside it is first behind it,
  pub beside : (first : OwnItem) → IsFirstKey files (is_above (Some after)) is_lower (entries_of (hash bits after) entries) (Some first) → IsFirstKey files (follows bits (Some after)) (precedes bits) entries (Some first)
  beside first best = (best.0, best.1, has.0, precedes_within bits after best.1 (sym key_hash) best.3, each)
    where
      has : HasKeyAt files entries best.0 best.1 (own_item first) × (best.0.0.hash ≡ hash bits after)
      has = of_hash files bits entries ordered hashed (hash bits after) best.0 best.1 (own_item first) best.2

      key_hash : hash bits best.1 ≡ hash bits after
      key_hash = sym (its_hash files bits entries ordered hashed best.0 best.1 (own_item first) has.0) ∙ has.1

      each : (d : IndexKey × IndexValue) (other : List ℕ) (item : Item) → HasKeyAt files entries d other item → follows bits (Some after) other ≡ true → (other ≡ best.1) ⊎ (precedes bits best.1 other ≡ true)
      each d other item has_other behind = ⊎_elim within lower (precedes_either bits after other behind)
        where
          within : (hash bits after ≡ hash bits other) × (is_lower after other ≡ true) → (other ≡ best.1) ⊎ (precedes bits best.1 other ≡ true)
          within same =
              let here = in_hash files bits entries ordered hashed (hash bits after) d other item has_other (its_hash files bits entries ordered hashed d other item has_other ∙ sym same.0) in
              ⊎_elim (λ own. inl own) (λ less. inr (precedes_within bits best.1 other (key_hash ∙ same.0) less)) (best.4 d other item here same.1)

          lower : is_lt (nat_cmp (hash bits after) (hash bits other)) ≡ true → (other ≡ best.1) ⊎ (precedes bits best.1 other ≡ true)
          lower less = inr (precedes_lower bits best.1 other (subst (λ (h : ℕ). is_lt (nat_cmp h (hash bits other)) ≡ true) (sym key_hash) less))

  module _ (none : IsFirstKey files (is_above (Some after)) is_lower (entries_of (hash bits after) entries) None) where
    -- and where there is none beside it, what is behind it has a greater hash.
    to_beyond : (e : IndexKey × IndexValue) (key : List ℕ) (item : Item) → HasKeyAt files entries e key item → follows bits (Some after) key ≡ true → is_beyond bits (Some (hash bits after)) key ≡ true
    to_beyond e key item has behind = ⊎_elim
        (λ same. absurd (never (sym same.1 ∙ none e key item (in_hash files bits entries ordered hashed (hash bits after) e key item has (its_hash files bits entries ordered hashed e key item has ∙ sym same.0)))))
        (λ less. sym (lower_test (hash bits after) (hash bits key)) ∙ less)
        (precedes_either bits after key behind)

    of_beyond : (key : List ℕ) → is_beyond bits (Some (hash bits after)) key ≡ true → follows bits (Some after) key ≡ true
    of_beyond key beyond = precedes_lower bits after key (lower_test (hash bits after) (hash bits key) ∙ beyond)

    pub behind_hash : (first : Option OwnItem) → IsFirstKey files (is_beyond bits (Some (hash bits after))) (precedes bits) entries first → IsFirstKey files (follows bits (Some after)) (precedes bits) entries first
    behind_hash None no_key = λ e key item has. passes_not e key item has (follows bits (Some after) key) refl
      where
        passes_not : (e : IndexKey × IndexValue) (key : List ℕ) (item : Item) → HasKeyAt files entries e key item → (b : Bool) → follows bits (Some after) key ≡ b → b ≡ false
        passes_not e key item has false is = refl
        passes_not e key item has true is = absurd (never (sym (to_beyond e key item has is) ∙ no_key e key item has))
    behind_hash (Some first) best = (best.0, best.1, best.2, of_beyond best.1 best.3, λ d other item has behind. best.4 d other item has (to_beyond d other item has behind))

-- where the files stand, their records do
module _ (a b : Image) (same : SameFiles a b) where
  same_front : (e : IndexKey × IndexValue) → entry_front b e.0 e.1 ≡ entry_front a e.0 e.1
  same_front e = ap (λ (found : Option (List ℕ)). front (take e.1.length (drop e.0.at (unwrap_or found [])))) (same (log_name e.0.file))

  has_now : (entries : Entries) (e : IndexKey × IndexValue) (key : List ℕ) (item : Item) → HasKeyAt a entries e key item → HasKeyAt b entries e key item
  has_now entries e key item has = record { within = has.within; read = same_front e ∙ has.read; of_key = has.of_key }

  had : (entries : Entries) (e : IndexKey × IndexValue) (key : List ℕ) (item : Item) → HasKeyAt b entries e key item → HasKeyAt a entries e key item
  had entries e key item has = record { within = has.within; read = sym (same_front e) ∙ has.read; of_key = has.of_key }

  pub hashed_now : (bits : ℕ) (entries : Entries) → AreHashed a bits entries → AreHashed b bits entries
  hashed_now bits entries hashed e within = let own = hashed e within in (own.0, own.1, has_now entries e own.0 own.1 own.2, own.3)

  first_had : (passes : List ℕ → Bool) (before : List ℕ → List ℕ → Bool) (entries : Entries) (first : Option OwnItem) → IsFirstKey b passes before entries first → IsFirstKey a passes before entries first
  first_had passes before entries None none = λ e key item has. none e key item (has_now entries e key item has)
  first_had passes before entries (Some first) best = (best.0, best.1, had entries best.0 best.1 (own_item first) best.2, best.3, λ d other item has. best.4 d other item (has_now entries d other item has))

  damaged_had : (entries : Entries) (d : Damage) → IsDamagedEntry b entries d → IsDamagedEntry a entries d
  damaged_had entries d damaged = (damaged.0, damaged.1, ap (λ (f : Front). wrong_with damaged.0.1.length f) (sym (same_front damaged.0)) ∙ damaged.2)

-- what is sought among the entries of a hash, beside a key,
abbrev pub SeeksBeside : Entries → List ℕ → Image → ℕ → Result (Option OwnItem) StoreFault → Type 0
SeeksBeside entries after files h result = Seeks (IsFirstKey files (is_above (Some after)) is_lower (entries_of h entries)) (entries_of h entries) files result

-- among those of greater hashes,
abbrev pub SeeksBeyond : ℕ → Entries → Image → ℕ → Result (Option OwnItem) StoreFault → Type 0
SeeksBeyond bits entries files h result = AreHashed files bits entries → Seeks (IsFirstKey files (is_beyond bits (Some h)) (precedes bits) entries) entries files result

-- and among all
abbrev pub SeeksBehind : ℕ → Entries → Option (List ℕ) → Image → Result (Option OwnItem) StoreFault → Type 0
SeeksBehind bits entries key files result = Seeks (IsFirstKey files (follows bits key) (precedes bits) entries) entries files result

module _ (bits : ℕ) (entries : Entries) (after : List ℕ) (key : Option (List ℕ)) (key_is : key ≡ Some after) (files : Image) (ordered : AreOrdered entries) (hashed : AreHashed files bits entries) (h : ℕ) (h_is : h ≡ hash bits after) where
  behind_key : (result : Result (Option OwnItem) StoreFault) → SeeksBehind bits entries (Some after) files result → SeeksBehind bits entries key files result
  behind_key result seeks = subst (λ (k : Option (List ℕ)). SeeksBehind bits entries k files result) (sym key_is) seeks

  -- What is found beside the key is the first behind it,
  pub seeks_beside : (first : OwnItem) → SeeksBeside entries after files h (Ok (Some first)) → SeeksBehind bits entries key files (Ok (Some first))
  seeks_beside first seeks = behind_key (Ok (Some first)) (record {
    given = beside files bits entries ordered hashed after first (subst (λ (n : ℕ). IsFirstKey files (is_above (Some after)) is_lower (entries_of n entries) (Some first)) h_is seeks.given);
    damaged = λ d err. cc;
  })

  pub beside_fails : (f : StoreFault) → SeeksBeside entries after files h (Err f) → SeeksBehind bits entries key files (Err f)
  beside_fails f seeks = record {
    given = tt;
    damaged = λ d err. damaged_of files bits entries ordered hashed h d (seeks.damaged d (same_fault f (fault.Damaged d) err));
  }

  -- and where none is found there, what is found behind its hash is.
  pub seeks_behind : (now : Image) (result : Result (Option OwnItem) StoreFault) → SameFiles files now → SeeksBeside entries after files h (Ok None) → SeeksBeyond bits entries now h result → SeeksBehind bits entries key files result
  seeks_behind now result same none later = behind_key result (record {
    given = IfOk-weaker result (IsFirstKey now (is_beyond bits (Some h)) (precedes bits) entries) (IsFirstKey files (follows bits (Some after)) (precedes bits) entries) given beyond.given;
    damaged = λ d err. damaged_had files now same entries d (beyond.damaged d err);
  })
    where
      beyond : Seeks (IsFirstKey now (is_beyond bits (Some h)) (precedes bits) entries) entries now result
      beyond = later (hashed_now files now same bits entries hashed)

      given : (first : Option OwnItem) → IsFirstKey now (is_beyond bits (Some h)) (precedes bits) entries first → IsFirstKey files (follows bits (Some after)) (precedes bits) entries first
      given first is =
          behind_hash files bits entries ordered hashed after (subst (λ (n : ℕ). IsFirstKey files (is_above (Some after)) is_lower (entries_of n entries) None) h_is none.given) first
          (first_had files now same (is_beyond bits (Some (hash bits after))) (precedes bits) entries first (subst (λ (n : ℕ). IsFirstKey now (is_beyond bits (Some n)) (precedes bits) entries first) h_is is))
