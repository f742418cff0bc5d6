-- How the requests are kept: those whose keys share a bucket of the hash are chained, from the newest on.
use Rattle.std.specs.Prelude.{◌≡◌, ℕ, ◌+◌, ◌-◌, ◌%◌, ◌^◌, ◌<◌, ◌≤◌, List, length, map, slice_index}
use Rattle.cache_model.specs.Hash.{hash}
use Rattle.temporary_table.specs.declared.requests.Request.{Request}
use Rattle.temporary_table.specs.declared.requests.Queued.{Queued}
use Rattle.temporary_table.specs.declared.requests.Requests.TheInside.{Inside}
use Rattle.temporary_table.specs.Queue.{Queue, key_of}

-- the requests of a queue
abbrev pub requests_of : List Queued → List Request
requests_of items = map (λ queued. queued.request) items

-- the bucket of a request, of so many buckets
abbrev pub bucket_of : ℕ → Request → ℕ
bucket_of count request = hash 32 (key_of request) % count

-- the bucket of each
abbrev pub buckets_of : ℕ → List Request → List ℕ
buckets_of count requests = map (bucket_of count) requests

-- how many stand between each request and the next older one of its bucket
abbrev pub betweens_of : List Queued → List ℕ
betweens_of items = map (λ queued. queued.between) items

-- how many were pushed since there were so many, where their number goes on from 0 behind the greatest
abbrev pub since : ℕ → ℕ → ℕ
since pushed count = (pushed + (2 ^ 64 - count)) % 2 ^ 64

-- of some first requests, the newest of a bucket stands below so many others, where there is one of that bucket
abbrev pub IsBelow : List ℕ → ℕ → ℕ → ℕ → Type 0
IsBelow buckets count bucket passed = (k : ℕ) → k < count → slice_index buckets k ≡ bucket → (k + passed < count) × (slice_index buckets (count - 1 - passed) ≡ bucket)

-- each request knows the next older one of its bucket
abbrev pub AreLinked : List ℕ → List ℕ → Type 0
AreLinked buckets betweens = (at : ℕ) → at < length buckets → IsBelow buckets at (slice_index buckets at) (slice_index betweens at)

-- each bucket knows its newest request
abbrev pub AreFound : List ℕ → ℕ → List ℕ → Type 0
AreFound buckets pushed newest = (bucket : ℕ) → bucket < length newest → IsBelow buckets (length buckets) bucket (since pushed (slice_index newest bucket))

-- the requests that wait are chained by so many buckets
pub record AreChained (count pushed : ℕ) (newest : List ℕ) (items : List Queued) : Type 0 where
  pub linked : AreLinked (buckets_of count (requests_of items)) (betweens_of items)
  pub found : AreFound (buckets_of count (requests_of items)) pushed newest

-- The room for all that may wait is there, and those that do are chained.
pub record IsSound (inside : Inside) : Type 0 where
  pub reserved : inside.limit ≤ inside.queue.cap
  pub within : length inside.queue.items ≤ inside.limit
  pub some : 0 < length inside.newest.items
  pub chained : AreChained (length inside.newest.items) inside.pushed inside.newest.items inside.queue.items

abbrev pub queue_of : Inside → Queue
queue_of inside = record { limit = inside.limit; waiting = requests_of inside.queue.items }
