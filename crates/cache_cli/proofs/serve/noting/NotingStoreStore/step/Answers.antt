use Rattle.std.proofs.Common.{false, inl, ℕ, refl, arith}
use Rattle.cache_disk.specs.State.{HostState}
use Rattle.cache_disk.proofs.Runs.{Silent-same}
use Rattle.store_trait.specs.declared.heap_store.HeapStore.{HeapStore}
use Rattle.store_trait.specs.Meaning.{Content}
use Rattle.store_trait.specs.Keeping.{Keeps}
use Rattle.store_trait.specs.Heap.{heap_facts, heap_means}
use Rattle.store_trait.proofs.Alike.{alike_same}
use Rattle.store_trait.proofs.Runs.{leaves_same}
use Rattle.cache_cli.proofs.serve.noting.NotingStoreStore.step.Goals as goal

-- what was possible stays so
keeps_same : (store : HeapStore) (host : HostState) (moment : ℕ) (wanted : Content) → Keeps (heap_facts store) host.turn host.turn moment (heap_means store host) (heap_means store host) wanted
keeps_same store host moment wanted = record {
  past = λ t key r mark before may. may;
  since = λ t key r mark from to may. inl (record { before = r; least = mark; possible = (refl, may.1, may.2); no_later = omega arith; alike = inl refl });
  past_whole = λ t c mark before may. may;
  since_whole = λ ordered t c mark from to may. inl (record { before = c; least = mark; possible = (refl, may.1, may.2); no_later = omega arith; alike = λ key. inl refl });
}

-- a step that was refused
pub returns-else-takes-clause-told : goal.returns-else-takes-clause-told
returns-else-takes-clause-told g c = λ told.
    let store = c.args.self.now.store in
    let host = g.H.Host.state c.args.host.now in
    record {
      acts = record {
        stands = λ unspoilt. tt;
        others = leaves_same (heap_facts store).owns false host;
        silent = Silent-same host;
        keeps = keeps_same store host c.args.moment store.entries.content;
        opens = record { past = λ t before opens. opens; since = λ sound t from to. tt };
        sound = λ sound. sound;
        undamaged = λ sound damage is. cc;
        spent = λ spent is. cc;
        refused = λ is unspoilt key. alike_same _ c.args.moment _;
        room = λ is unspoilt. refl;
      };
      content = tt;
      marks = tt;
      parts = tt;
    }
