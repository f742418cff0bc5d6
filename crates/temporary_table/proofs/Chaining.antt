-- The chains of buckets, after one request more and one less.
use Rattle.std.proofs.Common.{◌≡◌, ◌≢◌, ℕ, suc, ◌+◌, ◌-◌, ◌%◌, ◌^◌, ◌<◌, ◌≤◌, ⊎_elim, List, [], ◌∷◌, ◌++◌, length, refl, sym, ◌∙◌, ap, subst, arith}
use Rattle.std.specs.Prelude.{slice_index, slice_set, Option, Some, None, option_to_list}
use Rattle.std.proofs.lemmas.Bool.{cases_eq}
use Rattle.std.proofs.lemmas.List.{get_or_append_left, get_or_push, length_push, get_or-set_same, get_or-set_other, length-set, length-map, map_push}
use Rattle.temporary_table.specs.declared.requests.Queued.{Queued}
use Rattle.temporary_table.specs.Chains.{requests_of, bucket_of, buckets_of, betweens_of, since, IsBelow, AreLinked, AreFound, AreChained}

-- Without the oldest request the newest of a bucket stands where it stood.
below_later : (b : ℕ) (bs : List ℕ) (count bucket passed : ℕ) → IsBelow (b ∷ bs) (suc count) bucket passed → IsBelow bs count bucket passed
below_later b bs count bucket passed below = λ k less is.
    let got : (suc k + passed < suc count) × (slice_index (b ∷ bs) (suc count - 1 - passed) ≡ bucket) = below (suc k) (omega arith) is in
    let at : suc count - 1 - passed ≡ suc (count - 1 - passed) = omega arith in
    (omega arith, subst (λ (n : ℕ). slice_index (b ∷ bs) n ≡ bucket) at got.1)

linked_later : (b : ℕ) (bs : List ℕ) (between : ℕ) (betweens : List ℕ) → AreLinked (b ∷ bs) (between ∷ betweens) → AreLinked bs betweens
linked_later b bs between betweens linked = λ at less. below_later b bs at (slice_index bs at) (slice_index betweens at) (linked (suc at) (omega arith))

found_later : (b : ℕ) (bs : List ℕ) (pushed : ℕ) (newest : List ℕ) → AreFound (b ∷ bs) pushed newest → AreFound bs pushed newest
found_later b bs pushed newest found = λ bucket less. below_later b bs (length bs) bucket (since pushed (slice_index newest bucket)) (found bucket less)

-- Those that wait are chained once the oldest was taken,
pub chained_later : (count pushed : ℕ) (newest : List ℕ) (old new : List Queued) (taken : Option Queued) → old ≡ option_to_list taken ++ new → AreChained count pushed newest old → AreChained count pushed newest new
chained_later count pushed newest old new None is chained = subst (AreChained count pushed newest) is chained
chained_later count pushed newest old new (Some queued) is chained =
    let all : AreChained count pushed newest (queued ∷ new) = subst (AreChained count pushed newest) is chained in
    let bs : List ℕ = buckets_of count (requests_of new) in
    let b : ℕ = bucket_of count queued.request in
    record { linked = linked_later b bs queued.between (betweens_of new) all.linked; found = found_later b bs pushed newest all.found }

-- A request more leaves those before it as they were.
below_push : (bs : List ℕ) (b count bucket passed : ℕ) → count ≤ length bs → IsBelow bs count bucket passed → IsBelow (bs ++ b ∷ []) count bucket passed
below_push bs b count bucket passed within below = λ k less is.
    let kept : slice_index (bs ++ b ∷ []) k ≡ slice_index bs k = get_or_append_left bs (b ∷ []) 0 k (omega arith) in
    let got : (k + passed < count) × (slice_index bs (count - 1 - passed) ≡ bucket) = below k less (sym kept ∙ is) in
    (got.0, get_or_append_left bs (b ∷ []) 0 (count - 1 - passed) (omega arith) ∙ got.1)

-- It is the newest of its bucket,
below_itself : (bs : List ℕ) (b : ℕ) → IsBelow (bs ++ b ∷ []) (suc (length bs)) b 0
below_itself bs b = λ k less is.
    let at : suc (length bs) - 1 - 0 ≡ length bs = omega arith in
    (omega arith, ap (slice_index (bs ++ b ∷ [])) at ∙ get_or_push bs b 0 (length bs) refl)

-- and stands behind the newest of another.
below_other : (bs : List ℕ) (b bucket passed more : ℕ) → b ≢ bucket → (passed < length bs → more ≡ passed + 1) → IsBelow bs (length bs) bucket passed → IsBelow (bs ++ b ∷ []) (suc (length bs)) bucket more
below_other bs b bucket passed more apart one below = λ k less is. ⊎_elim
    (λ last. absurd (apart (sym (get_or_push bs b 0 (length bs) refl) ∙ ap (slice_index (bs ++ b ∷ [])) (sym last) ∙ is)))
    (λ ne.
    let within : k < length bs = omega arith in
    let kept : slice_index (bs ++ b ∷ []) k ≡ slice_index bs k = get_or_append_left bs (b ∷ []) 0 k within in
    let got : (k + passed < length bs) × (slice_index bs (length bs - 1 - passed) ≡ bucket) = below k within (sym kept ∙ is) in
    let is_one : more ≡ passed + 1 = one (omega arith) in
    let at : suc (length bs) - 1 - more ≡ length bs - 1 - passed = omega arith in
    (omega arith, ap (slice_index (bs ++ b ∷ [])) at ∙ get_or_append_left bs (b ∷ []) 0 (length bs - 1 - passed) (omega arith) ∙ got.1))
    (cases_eq k (length bs))

-- one more was pushed since, as long as the number doesn't begin anew
since_more : (pushed count : ℕ) → since pushed count + 1 < 2 ^ 64 → since ((pushed + 1) % 2 ^ 64) count ≡ since pushed count + 1
since_more pushed count less = omega arith

since_itself : (pushed : ℕ) → since ((pushed + 1) % 2 ^ 64) ((pushed + 1) % 2 ^ 64) ≡ 0
since_itself pushed = omega arith

pub at_same : (bs : List ℕ) (count bucket bucket' passed passed' : ℕ) → bucket ≡ bucket' → passed ≡ passed' → IsBelow bs count bucket passed → IsBelow bs count bucket' passed'
at_same bs count bucket bucket' passed passed' same one below = subst (λ (b : ℕ). IsBelow bs count b passed') same (subst (λ (n : ℕ). IsBelow bs count bucket n) one below)

linked_more : (bs betweens : List ℕ) (b passed : ℕ) → length betweens ≡ length bs → IsBelow bs (length bs) b passed → AreLinked bs betweens → AreLinked (bs ++ b ∷ []) (betweens ++ passed ∷ [])
linked_more bs betweens b passed long newest linked = λ at less. ⊎_elim
    (λ last.
    subst (λ (n : ℕ). IsBelow (bs ++ b ∷ []) n (slice_index (bs ++ b ∷ []) n) (slice_index (betweens ++ passed ∷ []) n)) (sym last)
    (at_same (bs ++ b ∷ []) (length bs) b (slice_index (bs ++ b ∷ []) (length bs)) passed (slice_index (betweens ++ passed ∷ []) (length bs))
    (sym (get_or_push bs b 0 (length bs) refl)) (sym (get_or_push betweens passed 0 (length bs) long))
    (below_push bs b (length bs) b passed (omega arith) newest)))
    (λ ne.
    let within : at < length bs = omega (arith, length_push bs b) in
    at_same (bs ++ b ∷ []) at (slice_index bs at) (slice_index (bs ++ b ∷ []) at) (slice_index betweens at) (slice_index (betweens ++ passed ∷ []) at)
    (sym (get_or_append_left bs (b ∷ []) 0 at within)) (sym (get_or_append_left betweens (passed ∷ []) 0 at (omega arith)))
    (below_push bs b at (slice_index bs at) (slice_index betweens at) (omega arith) (linked at within)))
    (cases_eq at (length bs))

found_more : (bs newest : List ℕ) (b pushed : ℕ) → b < length newest → length bs + 1 < 2 ^ 64 → AreFound bs pushed newest → AreFound (bs ++ b ∷ []) ((pushed + 1) % 2 ^ 64) (slice_set newest b ((pushed + 1) % 2 ^ 64))
found_more bs newest b pushed within short found = λ bucket less.
    let after : ℕ = (pushed + 1) % 2 ^ 64 in
    let count : length (bs ++ b ∷ []) ≡ suc (length bs) = omega (arith, length_push bs b) in
    let there : bucket < length newest = omega (arith, length-set newest b after) in
    subst (λ (n : ℕ). IsBelow (bs ++ b ∷ []) n bucket (since after (slice_index (slice_set newest b after) bucket))) (sym count)
    (⊎_elim
    (λ same.
    at_same (bs ++ b ∷ []) (suc (length bs)) b bucket 0 (since after (slice_index (slice_set newest b after) bucket)) (sym same)
    (sym (ap (since after) (ap (slice_index (slice_set newest b after)) same ∙ get_or-set_same newest b after 0 within) ∙ since_itself pushed))
    (below_itself bs b))
    (λ ne.
    let kept : slice_index (slice_set newest b after) bucket ≡ slice_index newest bucket = get_or-set_other newest b bucket after 0 ne in
    below_other bs b bucket (since pushed (slice_index newest bucket)) (since after (slice_index (slice_set newest b after) bucket)) (λ is. ne (sym is))
    (λ less. ap (since after) kept ∙ since_more pushed (slice_index newest bucket) (omega arith))
    (found bucket there))
    (cases_eq bucket b))

-- and once there is a newer one.
pub chained_more : (pushed bucket : ℕ) (newest : List ℕ) (items all : List Queued) (queued : Queued) → all ≡ items ++ queued ∷ [] → bucket ≡ bucket_of (length newest) queued.request → bucket < length newest → length all < 2 ^ 64
    → queued.between ≡ since pushed (slice_index newest bucket) → AreChained (length newest) pushed newest items
    → AreChained (length (slice_set newest bucket ((pushed + 1) % 2 ^ 64))) ((pushed + 1) % 2 ^ 64) (slice_set newest bucket ((pushed + 1) % 2 ^ 64)) all
chained_more pushed bucket newest items all queued is its within short between chained =
    let after : ℕ = (pushed + 1) % 2 ^ 64 in
    let count : ℕ = length newest in
    let bs : List ℕ = buckets_of count (requests_of items) in
    let long : length bs ≡ length items = length-map (requests_of items) (bucket_of count) ∙ length-map items (λ q. q.request) in
    let short' : length bs + 1 < 2 ^ 64 = omega (arith, ap length is, length_push items queued) in
    let more : buckets_of count (requests_of all) ≡ bs ++ bucket ∷ [] =
    ap (λ (qs : List Queued). buckets_of count (requests_of qs)) is
    ∙ ap (buckets_of count) (map_push (λ (q : Queued). q.request) items queued)
    ∙ map_push (bucket_of count) (requests_of items) queued.request
    ∙ ap (λ (b : ℕ). bs ++ b ∷ []) (sym its) in
    let betweens : betweens_of all ≡ betweens_of items ++ queued.between ∷ [] = ap betweens_of is ∙ map_push (λ (q : Queued). q.between) items queued in
    let before : IsBelow bs (length bs) bucket queued.between = subst (λ (n : ℕ). IsBelow bs (length bs) bucket n) (sym between) (chained.found bucket within) in
    subst (λ (n : ℕ). AreChained n after (slice_set newest bucket after) all) (sym (length-set newest bucket after))
    (record {
      linked = subst (λ (s : List ℕ). AreLinked s (betweens_of all)) (sym more) (subst (AreLinked (bs ++ bucket ∷ [])) (sym betweens)
          (linked_more bs (betweens_of items) bucket queued.between (length-map items (λ q. q.between) ∙ sym long) before chained.linked));
      found = subst (λ (s : List ℕ). AreFound s after (slice_set newest bucket after)) (sym more) (found_more bs newest bucket pushed within short' chained.found);
    })
