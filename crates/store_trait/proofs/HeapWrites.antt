-- What a write leaves of a store in memory.
use Rattle.std.proofs.Common.{◌≡◌, inl, inr, ℕ, ◌≤◌, false, refl, sym, ◌∙◌, ap, subst, arith}
use Rattle.std.specs.Prelude.{Result, Ok, Err, OnOk, OnErr}
use Rattle.cache_model.specs.declared.entries.Change.{Change}
use Rattle.cache_model.specs.declared.faults.ModelFault.{ModelFault}
use Rattle.cache_model.specs.declared.faults.Damage.{Damage}
use Rattle.cache_model.specs.declared.faults.Spent.{Spent}
use Rattle.cache_model.specs.declared.faults.StoreFault.{StoreFault}
use Rattle.cache_model.specs.declared.faults.StoreFault.TheVariants as fault
use Rattle.cache_disk.specs.State.{HostState}
use Rattle.cache_disk.proofs.Runs.{Silent-same}
use Rattle.store_trait.specs.declared.heap_store.HeapStore.{HeapStore}
use Rattle.store_trait.specs.Held.{Held}
use Rattle.store_trait.specs.Meaning.{Content, read_in, changed}
use Rattle.store_trait.specs.Keeping.{Keeps, Opens, SameContent}
use Rattle.store_trait.specs.Calls.{Written}
use Rattle.store_trait.specs.Heap.{heap_facts, heap_means}
use Rattle.store_trait.proofs.Runs.{leaves_same}

-- each key is kept up to what the store then holds
heap_keeps : (old new : HeapStore) (host : HostState) (moment : ℕ) (wanted : Content) → moment ≤ new.latest → SameContent wanted new.entries.content
    → Keeps (heap_facts old) host.turn host.turn moment (heap_means old host) (heap_means new host) wanted
heap_keeps old new host moment wanted late same = record {
  past = λ t key r mark before may. absurd (omega (arith, may.0, before));
  since = λ t key r mark from to may. inr (record { late = omega (arith, late, may.2); alike = inl (may.1 ∙ same key) });
  past_whole = λ t c mark before may. absurd (omega (arith, may.0, before));
  since_whole = λ ordered t c mark from to may. inr (record { late = omega (arith, late, may.2); alike = λ key. inl (may.1 key ∙ same key) });
}

heap_opens : (old new : HeapStore) (host : HostState) → Opens host.turn host.turn (heap_means old host) (heap_means new host)
heap_opens old new host = record { past = λ t before opens. opens; since = λ sound t from to. tt }

-- an answer that isn't this one
ok_is_not : {T : Type 0} (x : T) (e : StoreFault) → Ok x ≡ Err e → ⊥
ok_is_not x e is = cc

memory_is_not : (result : Result (Unit {0}) StoreFault) (e : StoreFault) → result ≡ Err fault.Memory → result ≡ Err e → (e ≡ fault.Memory → ⊥) → ⊥
memory_is_not result e is so other = let same : e ≡ fault.Memory = cc in other same

-- a write that was taken
pub heap_wrote : (change : Change) (old new : HeapStore) (host : HostState) (moment : ℕ) → moment ≤ new.latest → SameContent (changed change old.entries.content) new.entries.content
    → Written change (heap_facts old) (heap_facts new) (heap_means old host) (heap_means new host) host host moment (Ok tt)
heap_wrote change old new host moment late same = record {
  acts = record {
    stands = λ unspoilt. tt;
    others = leaves_same (heap_facts old).owns false host;
    silent = Silent-same host;
    keeps = heap_keeps old new host moment (changed change old.entries.content) late same;
    opens = heap_opens old new host;
    sound = λ sound. sound;
    undamaged = λ sound damage is. ok_is_not tt (fault.Damaged damage) is;
    spent = λ spent is. ok_is_not tt (fault.Spent spent) is;
    refused = λ is. absurd (ok_is_not tt fault.Memory is);
    room = λ is. absurd (ok_is_not tt fault.Memory is);
  };
  content = same;
  unchanged = λ is. absurd (ok_is_not tt fault.Memory is);
  kept = λ is. absurd (ok_is_not tt fault.Memory is);
  quiet = λ quiet. refl;
  firm = λ firm r mark may. inl may.1;
  parts = refl;
}

-- a write that was refused
pub heap_refused : (change : Change) (old new : HeapStore) (host : HostState) (moment : ℕ) → old.latest ≤ moment → moment ≤ new.latest → new.entries ≡ old.entries
    → Written change (heap_facts old) (heap_facts new) (heap_means old host) (heap_means new host) host host moment (Err fault.Memory)
heap_refused change old new host moment before late same = record {
  acts = record {
    stands = λ unspoilt. tt;
    others = leaves_same (heap_facts old).owns false host;
    silent = Silent-same host;
    keeps = record {
      past = λ t key r mark before may. absurd (omega (arith, may.0, before));
      since = λ t key r mark from to may. inl (record { before = r; least = mark; possible = (refl, may.1 ∙ as_was key, omega (arith, before, late, may.2)); no_later = omega arith; alike = inl refl });
      past_whole = λ t c mark before may. absurd (omega (arith, may.0, before));
      since_whole = λ ordered t c mark from to may. inl (record { before = c; least = mark; possible = (refl, λ key. may.1 key ∙ as_was key, omega (arith, before, late, may.2)); no_later = omega arith; alike = λ key. inl refl });
    };
    opens = heap_opens old new host;
    sound = λ sound. sound;
    undamaged = λ sound damage is. memory_is_not (Err fault.Memory) (fault.Damaged damage) refl is (λ e. damaged_is_not damage e);
    spent = λ spent is. memory_is_not (Err fault.Memory) (fault.Spent spent) refl is (λ e. spent_is_not spent e);
    refused = λ is unspoilt key. inl (as_was key);
    room = λ is unspoilt. refl;
  };
  content = tt;
  unchanged = λ is unspoilt. as_was;
  kept = λ is unspoilt. heap_keeps old new host moment old.entries.content late as_was;
  quiet = λ quiet. refl;
  firm = λ firm. tt;
  parts = tt;
}
  where
    as_was : SameContent old.entries.content new.entries.content
    as_was key = ap (λ (h : Held). read_in h.content key) same

    damaged_is_not : (d : Damage) → fault.Damaged d ≡ fault.Memory → ⊥
    damaged_is_not d e = cc

    spent_is_not : (s : Spent) → fault.Spent s ≡ fault.Memory → ⊥
    spent_is_not s e = cc

-- a write, whichever way it went
pub heap_writes : (change : Change) (old new : HeapStore) (host : HostState) (moment : ℕ) (made : Result (Unit {0}) ModelFault) (result : Result (Unit {0}) StoreFault)
    → old.latest ≤ moment → moment ≤ new.latest
    → OnOk made (SameContent (changed change old.entries.content) new.entries.content) → OnErr made (new.entries ≡ old.entries)
    → OnOk made (result ≡ Ok tt) → OnErr made (result ≡ Err fault.Memory)
    → Written change (heap_facts old) (heap_facts new) (heap_means old host) (heap_means new host) host host moment result
heap_writes change old new host moment (Ok u) result before late taken refused ok err =
    subst (λ (r : Result (Unit {0}) StoreFault). Written change (heap_facts old) (heap_facts new) (heap_means old host) (heap_means new host) host host moment r) (sym ok) (heap_wrote change old new host moment late taken)
heap_writes change old new host moment (Err e) result before late taken refused ok err =
    subst (λ (r : Result (Unit {0}) StoreFault). Written change (heap_facts old) (heap_facts new) (heap_means old host) (heap_means new host) host host moment r) (sym err) (heap_refused change old new host moment before late refused)
