use Rattle.std.proofs.Common.{◌≡◌, List, refl, subst, sym}
use Rattle.std.specs.Prelude.{ℕ}
use Rattle.cache_model.specs.declared.files.Place.{Place}
use Rattle.temporary_table.specs.declared.requests.Request.{Request}
use Rattle.temporary_table.specs.declared.requests.Request.TheVariants.{Swap}
use Rattle.temporary_table.specs.Queue.{Queue, pushed}
use Rattle.compactor.specs.Counting.{counts_in}
use Rattle.compactor.specs.Indexing.{IsIndexed, StandsAt, last_put}
use Rattle.compactor.proofs.Noting.{copied_new, newest_stands, noted, placed_numbered, usable_queued}
use Rattle.compactor.proofs.parts.Parts.swap.Goals as goal

-- the copy's place is in the table and in the queue
pub returns : goal.returns
returns c =
    let old = c.args.self.now in
    let request : Request = Swap c.args.key c.args.from c.args.to in
    let more : c.push.new.self ≡ pushed old.requests request = c.push.ensures.pushed in
    record {
      notes = record {
        queues = record { tree = refl; stats = refl; log = refl; spoilt = refl; queued = more };
        usable = λ usable number. usable_queued old (record old { table = c.set.new.self; requests = c.push.new.self }) request (record { tree = refl; stats = refl; log = refl; spoilt = refl; queued = more }) c.set.ensures.set.bits
            (placed_numbered old.table c.set.new.self c.args.key c.args.to c.args.gone c.set.ensures.set number usable.placed) c.requires.room usable number;
        indexed = λ kept more_kept item indexed newest adds is. subst (λ (q : Queue). IsIndexed (counts_in more_kept) c.set.new.self old.tree q.waiting) (sym more)
            (noted (counts_in kept) (counts_in more_kept) c.args.key c.args.to c.args.gone item adds is request refl refl (copied_new (counts_in kept) (counts_in more_kept) c.args.key c.args.to c.args.gone item adds is c.args.from newest.counted)
            old.table c.set.new.self old.tree old.requests.waiting indexed c.set.ensures.set
            (λ k from to same.
            let key : c.args.key ≡ k = cc in
            let place : c.args.from ≡ from = cc in
            subst (λ (f : Place). StandsAt (counts_in kept) old.tree k (last_put k old.requests.waiting) f) place
            (subst (λ (l : List ℕ). StandsAt (counts_in kept) old.tree l (last_put l old.requests.waiting) c.args.from) key
            (newest_stands (counts_in kept) old.table old.tree old.requests.waiting c.args.key c.args.from item indexed newest))));
      };
    }
