-- A change, behind the step that made room for it.
use Rattle.std.proofs.Common.{◌≡◌, ◌∙◌, inl, ℕ, ◌<◌, Some, refl, ap, subst, length}
use Rattle.std.specs.Prelude.{Result, Ok, Err, OnOk, cond}
use Rattle.std.specs.Str.{bytes_eq}
use Rattle.cache_model.specs.declared.entries.Change.{Change}
use Rattle.cache_model.specs.declared.faults.StoreFault.{StoreFault}
use Rattle.cache_disk.specs.State.{HostState}
use Rattle.store_trait.specs.Meaning.{Content, Reading, changed, entry_of, key_of}
use Rattle.store_trait.specs.Keeping.{SameContent, SameStore}
use Rattle.store_trait.specs.Calls.{Acts, Written}
use Rattle.store_trait.proofs.Runs.{keeps_then, kept_same}
use Rattle.soft_index.specs.declared.log_store.LogStore.{LogStore}
use Rattle.soft_index.specs.Store.{MakesRoom, Queues, content_of, current_of, log_facts, log_means, number, writer}
use Rattle.soft_index.proofs.Indexing.{room_queues, room_refused}
use Rattle.soft_index.proofs.Turning.{acts_both}

-- a change of contents that read alike
changed_same : (change : Change) (one other : Content) → SameContent one other → SameContent (changed change one) (changed change other)
changed_same change one other same key = ap (λ (r : Reading). cond (bytes_eq (key_of change) key) (Some (entry_of change)) r) (same key)

-- A change after room was made, as one call.
pub entered_after : (S M T : LogStore) (a b d : HostState) (change : Change) (moment : ℕ) (result : Result (Unit {0}) StoreFault)
    → SameStore (log_facts S) (log_facts M)
    → SameContent (content_of S a.files) (content_of M b.files)
    → ((wanted : Content) → Acts {T = Unit {0}} (log_facts S) (log_facts M) (log_means S a) (log_means M b) a b moment wanted (Ok tt))
    → Written change (log_facts M) (log_facts T) (log_means M b) (log_means T d) b d moment result
    → MakesRoom S.parts.requests.limit (log_facts S).parts (log_facts M).parts
    → M.parts.requests.limit ≡ S.parts.requests.limit
    → length M.parts.requests.waiting < M.parts.requests.limit
    → Written change (log_facts S) (log_facts T) (log_means S a) (log_means T d) a d moment result
entered_after S M T a b d change moment result store same first second rows limit room = record {
  acts = acts_both {T = Unit {0}} {U = Unit {0}} (log_facts S) (log_facts M) (log_facts T) (log_means S a) (log_means M b) (log_means T d) a b d moment w v (Ok tt) result store (first w) second.acts (kept_same (log_facts S) moment w v changes)
      (λ err unspoilt key. inl (second.unchanged err unspoilt key ∙ same key))
      (λ err unspoilt. room_refused S.parts.requests.limit (length M.parts.requests.waiting) (current_of (writer M) (number M)) (log_facts S).parts (log_facts M).parts (log_facts T).parts refl
      (subst (λ (n : ℕ). length M.parts.requests.waiting < n) limit room) rows
      (subst (λ (n : ℕ). MakesRoom n (log_facts M).parts (log_facts T).parts) limit (second.acts.room err unspoilt)));
  content = by_content result second.content;
  unchanged = λ err unspoilt key. second.unchanged err unspoilt key ∙ same key;
  kept = λ err unspoilt. keeps_then (log_facts S) (log_facts M) a.turn b.turn d.turn moment (log_means S a) (log_means M b) (log_means T d) (content_of S a.files) (content_of M b.files) store
      (first (content_of S a.files)).others.images.later (first (content_of S a.files)).keeps (second.kept err unspoilt) (kept_same (log_facts S) moment (content_of S a.files) (content_of M b.files) same);
  quiet = λ quiet. cc;
  firm = λ firm. second.firm (store.firm ∙ firm);
  parts = by_parts result second.parts;
}
  where
    w : Content
    w = changed change (content_of S a.files)

    v : Content
    v = changed change (content_of M b.files)

    changes : SameContent w v
    changes = changed_same change (content_of S a.files) (content_of M b.files) same

    by_content : (r : Result (Unit {0}) StoreFault) → OnOk r (SameContent v (content_of T d.files)) → OnOk r (SameContent w (content_of T d.files))
    by_content (Ok done) is = λ key. is key ∙ changes key
    by_content (Err f) is = tt

    by_parts : (r : Result (Unit {0}) StoreFault) → OnOk r (Queues M.parts.requests.limit (log_facts M).parts (log_facts T).parts) → OnOk r (Queues S.parts.requests.limit (log_facts S).parts (log_facts T).parts)
    by_parts (Ok done) is = room_queues S.parts.requests.limit (log_facts S).parts (log_facts M).parts (log_facts T).parts rows (subst (λ (n : ℕ). Queues n (log_facts M).parts (log_facts T).parts) limit is)
    by_parts (Err f) is = tt
