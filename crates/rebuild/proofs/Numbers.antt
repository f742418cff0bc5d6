-- The numbers of the data files among some names.
use Rattle.std.proofs.Common.{◌≡◌, ◌≤◌, ℕ, ◌-◌, eqb, inr, ◌==◌, ⊎_elim, Bool, true, false, List, [], ◌∷◌, ◌++◌, ◌+◌, ◌<◌, length, take, get_or, Option, Some, None, Contains, All, refl, sym, ap, subst, ◌∙◌, arith}
use Rattle.std.specs.Prelude.{if◌then◌else◌, ◌↔◌, filter_map}
use Rattle.std.specs.List.{cons_option}
use Rattle.std.specs.List.{dedup}
use Rattle.std.specs.List.Sorted.{IsPermutation, IsSorted, IsStrictlyIncreasing}
use Rattle.std.specs.Ordering.{nat_cmp}
use Rattle.std.proofs.lemmas.Bool.Decides.{nat_tests}
use Rattle.std.specs.Option.{option_to_list}
use Rattle.std.proofs.lemmas.List.{take_more, get_or_default}
use Rattle.std.proofs.lemmas.List.Elements.{All-contains, Contains-get_or, filter_map-append}
use Rattle.std.proofs.lemmas.List.Kept.{Contains-dedup_nat, Contains-from_dedup}
use Rattle.std.proofs.lemmas.Map.Keys.{IsStrictlyIncreasing-dedup, non_decreasing_from_sorted, sorted_from_strictly_increasing}
use Rattle.std.proofs.lemmas.List.Sorted.{Contains-permutation, IsPermutation-sym}
use Rattle.cache_model.specs.declared.files.FileKind.{FileKind}
use Rattle.cache_model.specs.declared.files.FileKind.TheVariants.{Rules, Log, Tree, Base}
use Rattle.cache_model.specs.declared.files.FileName.{FileName}
use Rattle.cache_model.specs.Files.{IsFileName}
use Rattle.cache_model.specs.Images.{log_name}
use Rattle.rebuild.specs.Listing.{number_by, number_in, IsNumber, IsBehind}
use Rattle.cache_model.proofs.Members.{among-none, among-here, among-later, among-cases, all-among}

by-store : (store id n : ℕ) (b : Bool) → (store == 0) ≡ b → (if b then Some id else None) ≡ Some n → (store ≡ 0) × (id ≡ n)
by-store store id n true is e = (grind (arith, nat_tests), cc)
by-store store id n false is e = cc

-- which name a number is of
named-by : (kind : FileKind) (store id n : ℕ) → number_by kind store id ≡ Some n → (kind ≡ Log) × (store ≡ 0) × (id ≡ n)
named-by Rules store id n e = cc
named-by Log store id n e = let parts = by-store store id n (store == 0) refl e in (refl, parts.0, parts.1)
named-by Tree store id n e = cc
named-by Base store id n e = cc

abbrev named_so : FileKind → ℕ → ℕ → FileName
named_so kind store id = record { kind = kind; store = store; id = id }

pub named : (name : FileName) (n : ℕ) → number_in name ≡ Some n → name ≡ log_name n
named name n e =
    let parts = named-by name.kind name.store name.id n e in
    ap (λ (k : FileKind). named_so k name.store name.id) parts.0
    ∙ ap (λ s. named_so Log s name.id) parts.1
    ∙ ap (λ i. named_so Log 0 i) parts.2

-- the first number, where the first name has one
listed-in : (name : FileName) (found : Option ℕ) (rest : List ℕ) (names : List FileName) (n : ℕ) → number_in name ≡ found
    → ((m : ℕ) → Contains rest m → Contains names (log_name m))
    → Contains (cons_option found rest) n → Contains (name ∷ names) (log_name n)
listed-in name None rest names n is each among = among-later name (log_name n) names (each n among)
listed-in name (Some m) rest names n is each among =
    ⊎_elim
    (λ same. subst (λ k. Contains (name ∷ names) k) (named name m is ∙ ap log_name same) (among-here name names))
    (λ later. among-later name (log_name n) names (each n later))
    (among-cases m n rest among)

pub number-named : (names : List FileName) (n : ℕ) → Contains (filter_map number_in names) n → Contains names (log_name n)
number-named [] n among = absurd (among-none n among)
number-named (name ∷ names) n among = listed-in name (number_in name) (filter_map number_in names) names n refl (number-named names) among

in-front : (found : Option ℕ) (rest : List ℕ) (n : ℕ) → found ≡ Some n → Contains (cons_option found rest) n
in-front found rest n is = subst (λ f. Contains (cons_option f rest) n) (sym is) (among-here n rest)

behind-front : (found : Option ℕ) (rest : List ℕ) (n : ℕ) → Contains rest n → Contains (cons_option found rest) n
behind-front None rest n among = among
behind-front (Some m) rest n among = among-later m n rest among

pub named-number : (names : List FileName) (n : ℕ) → Contains names (log_name n) → Contains (filter_map number_in names) n
named-number [] n among = absurd (among-none _ among)
named-number (name ∷ names) n among =
    ⊎_elim
    (λ (same : name ≡ log_name n). in-front (number_in name) (filter_map number_in names) n (ap number_in same))
    (λ later. behind-front (number_in name) (filter_map number_in names) n (named-number names n later))
    (among-cases name (log_name n) names among)

one-kept : (found : Option ℕ) → option_to_list found ≡ cons_option found []
one-kept None = refl
one-kept (Some n) = refl

-- one name more
pub listed-more : (names : List FileName) (index : ℕ) (d : FileName) (found : Option ℕ) (before after : List ℕ)
    → index < length names
    → before ≡ filter_map number_in (take index names)
    → found ≡ number_in (get_or names index d)
    → after ≡ before ++ option_to_list found
    → after ≡ filter_map number_in (take (index + 1) names)
listed-more names index d found before after within so_far is kept =
    kept
    ∙ ap (λ l. l ++ option_to_list found) so_far
    ∙ ap (λ l. filter_map number_in (take index names) ++ l) (ap option_to_list is ∙ one-kept (number_in (get_or names index d)))
    ∙ sym (filter_map-append number_in (take index names) (get_or names index d ∷ []))
    ∙ sym (ap (λ (l : List FileName). filter_map number_in l) (take_more names index d within))

-- What is known of the numbers once they are sorted and each stands once.
pub record AreNumbersOf (names : List FileName) (numbers : List ℕ) : Type 0 where
  pub each : (n : ℕ) → (Contains numbers n ↔ Contains names (log_name n))
  pub ascend : IsStrictlyIncreasing numbers
  pub within : All IsNumber numbers

pub numbers-sorted : (names : List FileName) (listed sorted numbers : List ℕ) → All IsFileName names → listed ≡ filter_map number_in names → IsPermutation listed sorted → IsSorted nat_cmp sorted → numbers ≡ dedup eqb sorted → AreNumbersOf names numbers
numbers-sorted names listed sorted numbers are is moved in_order once = record {
  each = λ n. (to n, from n);
  ascend = subst (λ (l : List ℕ). IsStrictlyIncreasing l) (sym once) (IsStrictlyIncreasing-dedup sorted in_order);
  within = all-among IsNumber numbers (λ n among. All-contains IsFileName names (log_name n) are (to n among));
}
  where
    to : (n : ℕ) → Contains numbers n → Contains names (log_name n)
    to n among =
        let kept : Contains sorted n = Contains-from_dedup eqb sorted n (subst (λ (l : List ℕ). Contains l n) once among) in
        number-named names n (subst (λ (l : List ℕ). Contains l n) is (Contains-permutation sorted listed n (IsPermutation-sym listed sorted moved) kept))

    from : (n : ℕ) → Contains names (log_name n) → Contains numbers n
    from n among =
        let there : Contains sorted n = Contains-permutation listed sorted n moved (subst (λ (l : List ℕ). Contains l n) (sym is) (named-number names n among)) in
        subst (λ (l : List ℕ). Contains l n) (sym once) (Contains-dedup_nat sorted n there)

-- the last of some numbers that ascend is the greatest
pub behind-last : (numbers : List ℕ) (last : ℕ) → IsStrictlyIncreasing numbers → 0 < length numbers → last ≡ get_or numbers (length numbers - 1) 0 → IsBehind numbers (last + 1)
behind-last numbers last ascend some is = record {
  above = λ k d within.
      let least = non_decreasing_from_sorted numbers (sorted_from_strictly_increasing numbers ascend) in
      let below : get_or numbers k d ≤ get_or numbers (length numbers - 1) d = least k (length numbers - 1) d (omega arith) (omega arith) in
      let same = get_or_default numbers (length numbers - 1) d 0 (omega arith) in
      omega (arith, below, same, is);
  reached = inr (subst (λ (n : ℕ). Contains numbers n) (sym is ∙ omega arith) (Contains-get_or numbers (length numbers - 1) 0 (omega arith)));
}
