-- How many requests raise and lower the count of a key, counted along the chain of its bucket.
use Rattle.std.proofs.Common.{◌≡◌, ◌≢◌, ℕ, zero, suc, ◌+◌, ◌-◌, ◌%◌, ◌<◌, ◌≤◌, Bool, true, false, List, [], ◌∷◌, length, take, refl, sym, ◌∙◌, ap, subst, zero-add, arith}
use Rattle.std.specs.Prelude.{slice_index, slice_index_or, cond, count_by, Option, Some, None, IfSome}
use Rattle.std.specs.Option.{SomeIff}
use Rattle.std.specs.Int.{from_bool}
use Rattle.std.proofs.lemmas.Bool.{false_from_ne_true}
use Rattle.std.proofs.lemmas.Slice.Eq.{bytes_eq-Decides}
use Rattle.std.proofs.lemmas.List.{length-map, get_or-map, take_all}
use Rattle.std.proofs.lemmas.List.Sums.{sum_by-cons, sum_by_more, count_by-le-length}
use Rattle.cache_model.specs.Hash.{hash}
use Rattle.temporary_table.specs.declared.requests.Request.{Request}
use Rattle.temporary_table.specs.declared.requests.Request.TheVariants.{Set, Swap, Drop, Less}
use Rattle.temporary_table.specs.declared.requests.Queued.{Queued}
use Rattle.temporary_table.specs.Queue.{key_of, raises, lowers}
use Rattle.temporary_table.specs.Chains.{requests_of, bucket_of, buckets_of, betweens_of, since, IsBelow, AreLinked, AreChained}
use Rattle.temporary_table.proofs.Chaining.{at_same}

-- What raises or lowers the count of a key names it.
raises_named : (key : List ℕ) (request : Request) → raises key request ≡ true → key_of request ≡ key
raises_named key (Set named to gone) is = (bytes_eq-Decides named key).0 is
raises_named key (Swap named from to) is = (bytes_eq-Decides named key).0 is
raises_named key (Drop named from) is = cc
raises_named key (Less named) is = cc

lowers_named : (key : List ℕ) (request : Request) → lowers key request ≡ true → key_of request ≡ key
lowers_named key (Set named to gone) is = cc
lowers_named key (Swap named from to) is = cc
lowers_named key (Drop named from) is = cc
lowers_named key (Less named) is = (bytes_eq-Decides named key).0 is

-- how many of the first requests are still to be looked at
abbrev pub left_of : Option ℕ → ℕ
left_of None = 0
left_of (Some at) = at + 1

-- a walk along the chain of a bucket: it stands at one of that bucket, where any is left
pub record IsAlong (buckets : List ℕ) (bucket : ℕ) (next : Option ℕ) : Type 0 where
  pub within : left_of next ≤ length buckets
  pub here : IfSome next (λ at. (k : ℕ) → k < at + 1 → slice_index buckets k ≡ bucket → slice_index buckets at ≡ bucket)

along_below : (buckets : List ℕ) (bucket count passed : ℕ) (next : Option ℕ) → count ≤ length buckets → SomeIff next (passed < count) (count - 1 - passed) → IsBelow buckets count bucket passed → IsAlong buckets bucket next
along_below buckets bucket count passed None within is below = record { within = omega arith; here = tt }
along_below buckets bucket count passed (Some at) within is below =
    let less : passed < count = is.0 in
    let same : at ≡ count - 1 - passed = is.1 in
    record { within = omega arith; here = λ k less named. subst (λ (n : ℕ). slice_index buckets n ≡ bucket) (sym same) (below k (omega arith) named).1 }

module _ (test : Request → Bool) (count bucket : ℕ) (named : (request : Request) → test request ≡ true → bucket_of count request ≡ bucket) where
  -- Those of other buckets don't count.
  others : (requests : List Request) (m n : ℕ) → m ≤ n → ((k : ℕ) → m ≤ k → k < n → k < length requests → slice_index (buckets_of count requests) k ≢ bucket) → count_by test (take n requests) ≡ count_by test (take m requests)
  others [] zero zero below apart = refl
  others [] zero (suc n) below apart = refl
  others [] (suc m) zero below apart = refl
  others [] (suc m) (suc n) below apart = refl
  others (request ∷ requests) zero zero below apart = refl
  others (request ∷ requests) (suc m) zero below apart = absurd (omega arith)
  others (request ∷ requests) zero (suc n) below apart =
      let fails : test request ≡ false = false_from_ne_true (test request) (λ passes. apart 0 (omega arith) (omega arith) (omega arith) (named request passes)) in
      sum_by-cons (λ r. cond (test r) 1 0) request (take n requests)
      ∙ rw fails (zero-add (count_by test (take n requests)) ∙ others requests 0 n (omega arith) (λ k from less within. apart (suc k) (omega arith) (omega arith) (omega arith)))
  others (request ∷ requests) (suc m) (suc n) below apart =
      sum_by-cons (λ r. cond (test r) 1 0) request (take n requests)
      ∙ ap (λ (c : ℕ). cond (test request) 1 0 + c) (others requests m n (omega arith) (λ k from less within. apart (suc k) (omega arith) (omega arith) (omega arith)))
      ∙ sym (sum_by-cons (λ r. cond (test r) 1 0) request (take m requests))

  others_below : (requests : List Request) (first passed : ℕ) (next : Option ℕ) → SomeIff next (passed < first) (first - 1 - passed) → IsBelow (buckets_of count requests) first bucket passed
      → count_by test (take first requests) ≡ count_by test (take (left_of next) requests)
  others_below requests first passed None is below = others requests 0 first (omega arith) (λ k from less within here. is (omega (arith, (below k less here).0)))
  others_below requests first passed (Some at) is below =
      let less : passed < first = is.0 in
      let same : at ≡ first - 1 - passed = is.1 in
      others requests (at + 1) first (omega arith) (λ k from less within here. omega (arith, (below k less here).0))

  -- The one that is looked at counts where it passes.
  looked_at : (items : List Queued) (at : ℕ) (queued : Queued) → at < length items → queued ≡ slice_index_or items at queued
      → count_by test (take (at + 1) (requests_of items)) ≡ count_by test (take at (requests_of items)) + from_bool (test queued.request)
  looked_at items at queued within is =
      let request : Request = queued.request in
      let there : at < length (requests_of items) = omega (arith, within, length-map items (λ (q : Queued). q.request)) in
      let one : slice_index_or (requests_of items) at request ≡ request = get_or-map (λ (q : Queued). q.request) items at queued request within ∙ ap (λ (q : Queued). q.request) (sym is) in
      let counts : (b : Bool) → cond b 1 0 ≡ from_bool b = λ b. elim b as (λ b. cond b 1 0 ≡ from_bool b) [ true ↦ refl | false ↦ refl ] in
      sum_by_more (λ r. cond (test r) 1 0) (requests_of items) at request there ∙ ap (λ (r : Request). count_by test (take at (requests_of items)) + cond (test r) 1 0) one ∙ ap (λ (n : ℕ). count_by test (take at (requests_of items)) + n) (counts (test request))

-- Where a walk stands that counts the requests that raise and lower the count of a key.
pub record IsCounted (count : ℕ) (key : List ℕ) (requests : List Request) (next : Option ℕ) (raising lowering : ℕ) : Type 0 where
  pub along : IsAlong (buckets_of count requests) (hash 32 key % count) next
  pub raised : raising + count_by (raises key) (take (left_of next) requests) ≡ count_by (raises key) requests
  pub lowered : lowering + count_by (lowers key) (take (left_of next) requests) ≡ count_by (lowers key) requests

module _ (count : ℕ) (key : List ℕ) where
  abbrev bucket : ℕ
  bucket = hash 32 key % count

  by_raises : (request : Request) → raises key request ≡ true → bucket_of count request ≡ bucket
  by_raises request is = ap (λ (k : List ℕ). hash 32 k % count) (raises_named key request is)

  by_lowers : (request : Request) → lowers key request ≡ true → bucket_of count request ≡ bucket
  by_lowers request is = ap (λ (k : List ℕ). hash 32 k % count) (lowers_named key request is)

  -- at the newest of the bucket nothing was counted yet
  counted_below : (requests : List Request) (passed : ℕ) (next : Option ℕ) → SomeIff next (passed < length requests) (length requests - 1 - passed) → IsBelow (buckets_of count requests) (length requests) bucket passed
      → IsCounted count key requests next 0 0
  counted_below requests passed next is below =
      let long : length (buckets_of count requests) ≡ length requests = length-map requests (bucket_of count) in
      let all : take (length requests) requests ≡ requests = take_all (length requests) requests (omega arith) in
      record {
        along = along_below (buckets_of count requests) bucket (length requests) passed next (omega arith) is below;
        raised = zero-add (count_by (raises key) (take (left_of next) requests)) ∙ sym (others_below (raises key) count bucket by_raises requests (length requests) passed next is below) ∙ ap (count_by (raises key)) all;
        lowered = zero-add (count_by (lowers key) (take (left_of next) requests)) ∙ sym (others_below (lowers key) count bucket by_lowers requests (length requests) passed next is below) ∙ ap (count_by (lowers key)) all;
      }

  pub counted_first : (pushed there passed : ℕ) (newest : List ℕ) (items : List Queued) (next : Option ℕ) → there ≡ bucket → there < length newest → passed ≡ since pushed (slice_index newest there)
      → SomeIff next (passed < length items) (length items - 1 - passed) → AreChained count pushed newest items → IsCounted count key (requests_of items) next 0 0
  counted_first pushed there passed newest items next its within since_newest is chained =
      let requests : List Request = requests_of items in
      let buckets : List ℕ = buckets_of count requests in
      let long : length items ≡ length requests = sym (length-map items (λ (q : Queued). q.request)) in
      let below : IsBelow buckets (length requests) bucket passed =
      at_same buckets (length requests) there bucket (since pushed (slice_index newest there)) passed its (sym since_newest)
      (subst (λ (n : ℕ). IsBelow buckets n there (since pushed (slice_index newest there))) (length-map requests (bucket_of count)) (chained.found there within)) in
      counted_below requests passed next (subst (λ (n : ℕ). SomeIff next (passed < n) (n - 1 - passed)) long is) below

  counted_at : (requests : List Request) (next : Option ℕ) (at raising lowering : ℕ) → next ≡ Some at → IsCounted count key requests next raising lowering → IsCounted count key requests (Some at) raising lowering
  counted_at requests next at raising lowering is counted = subst (λ (o : Option ℕ). IsCounted count key requests o raising lowering) is counted

  -- A walk stands at one of those that wait.
  pub counted_there : (items : List Queued) (next : Option ℕ) (at raising lowering : ℕ) → next ≡ Some at → IsCounted count key (requests_of items) next raising lowering → at < length items
  counted_there items next at raising lowering is counted =
      let standing : IsCounted count key (requests_of items) (Some at) raising lowering = counted_at (requests_of items) next at raising lowering is counted in
      omega (arith, standing.along.within, length-map (requests_of items) (bucket_of count), length-map items (λ (q : Queued). q.request))

  -- one more of the chain
  pub counted_more : (items : List Queued) (old : Option ℕ) (at : ℕ) (queued : Queued) (next : Option ℕ) (raising lowering : ℕ) → old ≡ Some at → queued ≡ slice_index_or items at queued → SomeIff next (queued.between < at) (at - 1 - queued.between)
      → AreLinked (buckets_of count (requests_of items)) (betweens_of items) → IsCounted count key (requests_of items) old raising lowering
      → IsCounted count key (requests_of items) next (raising + from_bool (raises key queued.request)) (lowering + from_bool (lowers key queued.request))
  counted_more items old at queued next raising lowering standing item is linked so_far =
      let requests : List Request = requests_of items in
      let counted : IsCounted count key requests (Some at) raising lowering = counted_at requests old at raising lowering standing so_far in
      let long : length (buckets_of count requests) ≡ length items = length-map requests (bucket_of count) ∙ length-map items (λ (q : Queued). q.request) in
      let there : at < length items = counted_there items old at raising lowering standing so_far in
      let between : queued.between ≡ slice_index (betweens_of items) at = ap (λ (q : Queued). q.between) item ∙ sym (get_or-map (λ (q : Queued). q.between) items at queued 0 there) in
      let below : IsBelow (buckets_of count requests) at bucket queued.between = λ k less named.
      at_same (buckets_of count requests) at (slice_index (buckets_of count requests) at) bucket (slice_index (betweens_of items) at) queued.between (counted.along.here k (omega arith) named) (sym between)
      (linked at (omega (arith, there, long))) k less named in
      record {
        along = along_below (buckets_of count requests) bucket at queued.between next (omega (arith, there, long)) is below;
        raised = omega (arith, counted.raised, looked_at (raises key) count bucket by_raises items at queued there item, others_below (raises key) count bucket by_raises requests at queued.between next is below);
        lowered = omega (arith, counted.lowered, looked_at (lowers key) count bucket by_lowers items at queued there item, others_below (lowers key) count bucket by_lowers requests at queued.between next is below);
      }

  -- What was counted is no more than those that wait.
  pub counted_within : (items : List Queued) (next : Option ℕ) (at : ℕ) (queued : Queued) (raising lowering : ℕ) → next ≡ Some at → queued ≡ slice_index_or items at queued → IsCounted count key (requests_of items) next raising lowering
      → (raising + from_bool (raises key queued.request) ≤ length items) × (lowering + from_bool (lowers key queued.request) ≤ length items)
  counted_within items next at queued raising lowering is item so_far =
      let requests : List Request = requests_of items in
      let counted : IsCounted count key requests (Some at) raising lowering = counted_at requests next at raising lowering is so_far in
      let long : length requests ≡ length items = length-map items (λ (q : Queued). q.request) in
      let there : at < length items = counted_there items next at raising lowering is so_far in (
        omega (arith, counted.raised, looked_at (raises key) count bucket by_raises items at queued there item, count_by-le-length (raises key) requests, long),
        omega (arith, counted.lowered, looked_at (lowers key) count bucket by_lowers items at queued there item, count_by-le-length (lowers key) requests, long),
      )

  -- At the end of the chain all are counted.
  pub counted_all : (requests : List Request) (next : Option ℕ) (raising lowering : ℕ) → ((at : ℕ) → next ≡ Some at → ⊥) → IsCounted count key requests next raising lowering
      → (raising ≡ count_by (raises key) requests) × (lowering ≡ count_by (lowers key) requests)
  counted_all requests None raising lowering none counted = (omega (arith, counted.raised), omega (arith, counted.lowered))
  counted_all requests (Some at) raising lowering none counted = absurd (none at refl)

-- A step goes down the chain.
pub left_less : (next : Option ℕ) (at between : ℕ) → SomeIff next (between < at) (at - 1 - between) → left_of next < at + 1
left_less None at between is = omega arith
left_less (Some x) at between is =
    let less : between < at = is.0 in
    let same : x ≡ at - 1 - between = is.1 in
    omega arith
