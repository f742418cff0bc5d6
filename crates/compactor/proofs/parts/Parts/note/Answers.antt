use Rattle.std.proofs.Common.{◌≡◌, ◌+◌, List, ◌++◌, ◌∷◌, [], length, refl, ◌∙◌, ap, subst, sym, length-append}
use Rattle.temporary_table.specs.declared.requests.Request.{Request}
use Rattle.temporary_table.specs.declared.requests.Request.TheVariants.{Set}
use Rattle.temporary_table.specs.Queue.{Queue, pushed}
use Rattle.compactor.specs.Counting.{counts_in}
use Rattle.compactor.specs.Indexing.{IsIndexed}
use Rattle.compactor.proofs.Noting.{noted, placed_new, placed_numbered, usable_queued}
use Rattle.compactor.proofs.parts.Parts.note.Goals as goal

one_more : (waiting : List Request) (request : Request) → length (waiting ++ request ∷ []) ≡ length waiting + 1
one_more waiting request = length-append waiting (request ∷ [])

-- the key's place is in the table and in the queue
pub returns : goal.returns
returns c =
    let old = c.args.self.now in
    let request : Request = Set c.args.key c.args.place c.args.gone in
    let more : c.push.new.self ≡ pushed old.requests request = c.push.ensures.pushed in
    record {
      notes = record {
        tree = refl;
        stats = refl;
        log = refl;
        spoilt = refl;
        limit = ap (λ (q : Queue). q.limit) more;
        queued = ap (λ (q : Queue). length q.waiting) more ∙ one_more old.requests.waiting request;
        usable = λ usable number. usable_queued old (record old { table = c.set.new.self; requests = c.push.new.self }) request (record { tree = refl; stats = refl; log = refl; spoilt = refl; queued = more }) c.set.ensures.set.bits
            (placed_numbered old.table c.set.new.self c.args.key c.args.place c.args.gone c.set.ensures.set number usable.placed) c.requires.room usable number;
        indexed = λ kept more_kept item indexed adds is. subst (λ (q : Queue). IsIndexed (counts_in more_kept) c.set.new.self old.tree q.waiting) (sym more)
            (noted (counts_in kept) (counts_in more_kept) c.args.key c.args.place c.args.gone item adds is request refl refl (placed_new (counts_in kept) (counts_in more_kept) c.args.key c.args.place c.args.gone item adds is)
            old.table c.set.new.self old.tree old.requests.waiting indexed c.set.ensures.set (λ k from to same. cc));
      };
    }
