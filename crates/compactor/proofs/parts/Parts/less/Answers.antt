use Rattle.std.proofs.Common.{◌≡◌, refl, subst, sym}
use Rattle.temporary_table.specs.declared.requests.Request.{Request}
use Rattle.temporary_table.specs.declared.requests.Request.TheVariants.{Less}
use Rattle.temporary_table.specs.Queue.{Queue, pushed}
use Rattle.compactor.specs.Counting.{counts_in}
use Rattle.compactor.specs.Indexing.{IsIndexed}
use Rattle.compactor.proofs.Noting.{noted_nowhere, usable_queued}
use Rattle.compactor.proofs.parts.Parts.less.Goals as goal

-- it is in the queue
pub returns : goal.returns
returns c =
    let old = c.args.self.now in
    let request : Request = Less c.args.key in
    let more : c.push.new.self ≡ pushed old.requests request = c.push.ensures.pushed in
    record {
      notes = record {
        queues = record { tree = refl; stats = refl; log = refl; spoilt = refl; queued = more };
        table = refl;
        usable = λ usable. usable_queued old (record old { requests = c.push.new.self }) request (record { tree = refl; stats = refl; log = refl; spoilt = refl; queued = more }) refl usable.placed c.requires.room usable tt;
        indexed = λ kept indexed. subst (λ (q : Queue). IsIndexed (counts_in kept) old.table old.tree q.waiting) (sym more) (noted_nowhere (counts_in kept) old.table old.tree old.requests.waiting request refl tt indexed);
      };
    }
