use Rattle.std.proofs.Common.{arith, refl, rules}
use Rattle.store_trait.proofs.heap_store.HeapStoreFileStore.compact_all.Goals as goal

pub returns-clause-told : goal.returns-clause-told
returns-clause-told g c told =
    let state = g.H.Host.state c.args._host.now in
    let now = g.met.H.Host.reads_now c.args._host.now told in
    record {
      acts = search rules;
      content = search rules;
      marks = search rules;
      made = (state.files, 0, (state.turn, omega arith, omega arith, now), refl, omega arith);
      parts = (state.files, 0, (state.turn, omega arith, omega arith, now), (refl, refl), omega arith);
      swept = λ image left. tt;
    }
