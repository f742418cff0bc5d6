use Rattle.std.proofs.Common.{◌≡◌, ◌∙◌, [], ◌∷◌, ◌++◌, Err, List, Ok, Option, Some, ap, refl, subst, sym, ℕ}
use Rattle.std.specs.Prelude.{length}
use Rattle.cache_model.specs.declared.faults.StoreFault.TheVariants as fault
use Rattle.cache_model.specs.Items.{Item}
use Rattle.cache_model.specs.Images.{key_of}
use Rattle.cache_disk.proofs.Runs.{Stands-same}
use Rattle.data_file.proofs.Frame.{placed_of}
use Rattle.record_format.specs.Meaning.{own_item}
use Rattle.soft_index.specs.declared.log_store.LogStore.{LogStore}
use Rattle.soft_index.specs.declared.running.Run.{Run}
use Rattle.soft_index.specs.Running.{HasLooked}
use Rattle.soft_index.specs.Store.{Holds, current_of, number, writer}
use Rattle.soft_index.proofs.Chaining.{acts_err, acts_ok, still_acts_or}
use Rattle.soft_index.proofs.RunRows.{looked_rows}
use Rattle.soft_index.proofs.RunTurns.{next_counts, run_looked}
use Rattle.soft_index.proofs.running.look.Goals as goal

pub returns-in_default-copy-clause-told : goal.returns-in_default-copy-clause-told
returns-in_default-copy-clause-told g c told was held read left =
    let old = c.args.store.now in
    let new : LogStore = record old { latest = c.args.moment } in
    let a = g.H.Host.state c.args.host.now in
    record {
      acts = (still_acts_or {R = Option Run} old new a a held.frames held.records c.args.moment (Err fault.Memory) held.log c.requires.ready.unspoilt c.requires.ready.late refl (Stands-same a) tt tt (λ d err. cc) (λ s err. cc)).acts;
      content = tt;
      held = tt;
      stays = tt;
      files = tt;
      rows = tt;
    }

pub returns-in_default-push-clause-told : goal.returns-in_default-push-clause-told
returns-in_default-push-clause-told g c told was held read left =
    let old = c.args.store.now in
    let new : LogStore = record old { latest = c.args.moment } in
    let a = g.H.Host.state c.args.host.now in
    record {
      acts = (still_acts_or {R = Option Run} old new a a held.frames held.records c.args.moment (Err fault.Memory) held.log c.requires.ready.unspoilt c.requires.ready.late refl (Stands-same a) tt tt (λ d err. cc) (λ s err. cc)).acts;
      content = tt;
      held = tt;
      stays = tt;
      files = tt;
      rows = tt;
    }

pub returns-in-Ok-look_at-clause-told : goal.returns-in-Ok-look_at-clause-told
returns-in-Ok-look_at-clause-told g c told was held read left =
    let old = c.args.store.now in
    let new = c.look_at.new.store in
    let run = c.args.run in
    let next : Run = record run { looked = c.push.new.self } in
    let a = g.H.Host.state c.args.host.now in
    let b = g.H.Host.state c.look_at.new.host in
    let item : Item = own_item c.args.one.now.item in
    let at = c.args.one.now.place.at in
    let file : c.args.one.now.place.file ≡ was.file = c.requires.given.file ∙ read.file in
    let counts = next_counts was old a.files held.frames held.records at item held.runs (read.unstamped) _ left in
    let holds : Holds (number old) (placed_of held.frames held.records) a.files c.args.one.now.place.file at item = subst (λ (n : ℕ). Holds (number old) (placed_of held.frames held.records) a.files n at item) (sym file) counts in
    let closed : c.args.one.now.place.file ≡ number old → ⊥ = (λ here. held.runs.closed (sym file ∙ here)) in
    let is = c.in-Ok-look_at.ensures.told told held.frames held.records held.log holds closed in
    let here = subst (λ (n : ℕ). HasLooked {R = Unit {0}} old new a b held.frames held.records c.args.moment n at item (Ok tt)) file is in
    let of_key : key_of item ≡ Some c.in-Some.key.now = c.in-Some.ensures in
    let looked = c.in-Ok-push.ensures.items ∙ ap (λ (k : List ℕ). run.looked.items ++ k ∷ []) c.in-Ok.ensures.equal in
    record {
      acts = acts_ok {Q = Unit {0}} {R = Option Run} old new a b c.args.moment tt (Some next) here.acts;
      content = here.content;
      held = record {
        frames = here.passed.0.fs;
        records = here.passed.0.rs;
        log = here.passed.0.holds;
        runs = run_looked was run next old new a b held.frames held.records at item c.in-Some.key.now held.runs read left refl refl refl looked of_key here.passed.0 here.passed.1;
        zero = here.passed.0.grows.zero held.zero;
      };
      stays = (here.passed.0.grows.closed was.file held.runs.closed held.runs.there).1;
      files = record { later = here.passed.0.grows.later; below = λ n less apart. here.passed.0.grows.below n less };
      rows = looked_rows old.parts.requests.limit was run next old a.files held.frames held.records (at, item) _ c.in-Some.key.now (length old.parts.requests.waiting) (current_of (writer old) (number old)) _ held.runs read refl refl looked left c.in-Ok-look_at.ensures.rows;
    }

pub returns-in-Err-clause-told : goal.returns-in-Err-clause-told
returns-in-Err-clause-told g c told was held read left =
    let old = c.args.store.now in
    let new = c.look_at.new.store in
    let a = g.H.Host.state c.args.host.now in
    let b = g.H.Host.state c.look_at.new.host in
    let item : Item = own_item c.args.one.now.item in
    let at = c.args.one.now.place.at in
    let file : c.args.one.now.place.file ≡ was.file = c.requires.given.file ∙ read.file in
    let counts = next_counts was old a.files held.frames held.records at item held.runs (read.unstamped) _ left in
    let holds : Holds (number old) (placed_of held.frames held.records) a.files c.args.one.now.place.file at item = subst (λ (n : ℕ). Holds (number old) (placed_of held.frames held.records) a.files n at item) (sym file) counts in
    let closed : c.args.one.now.place.file ≡ number old → ⊥ = (λ here. held.runs.closed (sym file ∙ here)) in
    let is = c.in-Err.ensures.told told held.frames held.records held.log holds closed in
    record { acts = acts_err {Q = Unit {0}} {R = Option Run} old new a b c.args.moment c.in-Err.fault is.acts; content = tt; held = tt; stays = tt; files = tt; rows = tt }
