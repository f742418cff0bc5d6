use Rattle.std.proofs.Common.{◌≡◌, ◌∙◌, refl, ap, sym, Err, Ok, Some, true}
use Rattle.std.specs.Prelude.{OnOk, Result}
use Rattle.cache_model.specs.declared.faults.StoreFault.{StoreFault}
use Rattle.cache_model.specs.declared.faults.StoreFault.TheVariants as fault
use Rattle.cache_model.specs.declared.faults.Spent.{Spent}
use Rattle.cache_disk.proofs.Runs.{Stands-same}
use Rattle.store_trait.specs.Meaning.{changed}
use Rattle.soft_index.specs.declared.log_store.LogStore.{LogStore}
use Rattle.soft_index.specs.Store.{IsWritten, content_of, log_facts, spent_by}
use Rattle.append_log.specs.Current.{number_of}
use Rattle.soft_index.proofs.Changes.{as_was, still_acts}
use Rattle.soft_index.proofs.Growing.{grows_still, grows_then}
use Rattle.soft_index.proofs.Putting.{spent_number, written_from}
use Rattle.soft_index.proofs.Roomed.{entered_after}
use Rattle.soft_index.proofs.Turning.{plainly_then}
use Rattle.soft_index.proofs.store.LogStoreStore.write.Goals as goal

-- where a number is at its end
pub returns-in-Some-clause-told : goal.returns-in-Some-clause-told
returns-in-Some-clause-told g c told =
    let old = c.args.self.now in
    let new : LogStore = record old { parts = record old.parts { spoilt = true }; latest = c.args.moment } in
    let a = g.H.Host.state c.args.host.now in
    let stands = c.requires.stands told in
    let spent : spent_by old c.args.change.now ≡ Some c.in-Some.spent = sym c.spent_by.ensures ∙ c.in-Some.is in
    record {
      acts = still_acts {R = Unit {0}} old new a a c.args.moment (changed c.args.change.now (content_of old a.files)) stands.0 stands.1 (Err (fault.Spent c.in-Some.spent)) stands.2 c.requires.ready.unspoilt c.requires.ready.late refl
          (as_was old new a.files a.files refl (refl, refl, refl) refl (λ n. refl)) (Stands-same a) (λ d err. cc)
          (λ s err. let same : c.in-Some.spent ≡ s = cc in spent_number old new c.args.change.now s (spent ∙ ap (λ (x : Spent). Some x) same) (refl, refl)) (λ err. cc);
      content = tt;
      unchanged = λ of. cc;
      kept = λ of. cc;
      quiet = λ quiet. cc;
      firm = λ firm. tt;
      parts = tt;
    }

-- where there is room

pub enter-requires-clause-stands : goal.enter-requires-clause-stands
enter-requires-clause-stands g c told =
    let stands = c.requires.stands told in
    (stands.0, stands.1, c.make_room.ensures.kept told c.in_default-make_room.ensures.plain.unspoilt stands.0 stands.1 stands.2)

-- where no room was made
pub returns-in-Err-clause-told : goal.returns-in-Err-clause-told
returns-in-Err-clause-told g c told =
    let old = c.args.self.now in
    let new = c.make_room.new.store in
    let a = g.H.Host.state c.args.host.now in
    let b = g.H.Host.state c.make_room.new.host in
    let ens = c.make_room.ensures in
    record {
      acts = c.in-Err.ensures.told told (changed c.args.change.now (content_of old a.files));
      content = tt;
      unchanged = λ of unspoilt. ens.content told unspoilt;
      kept = λ of unspoilt. (c.in-Err.ensures.told told (content_of old a.files)).keeps;
      quiet = λ quiet. cc;
      firm = λ firm. tt;
      parts = tt;
    }

pub returns-clause-plain : goal.returns-clause-plain
returns-clause-plain g c =
    plainly_then {T = Unit {0}} {U = Unit {0}} (log_facts c.args.self.now) (log_facts c.make_room.new.store) (log_facts c.enter.new.store) c.args.moment c.make_room.result c.enter.result c.make_room.ensures.plain c.enter.ensures.plain

pub returns-clause-wrote : goal.returns-clause-wrote
returns-clause-wrote g c told frames records stands =
    let old = c.args.self.now in
    let mid = c.make_room.new.store in
    let new = c.enter.new.store in
    let d = g.H.Host.state c.enter.new.host in
    let unspoilt = c.in_default-make_room.ensures.plain.unspoilt in
    let wrote = c.enter.ensures.wrote told frames records (c.make_room.ensures.kept told unspoilt frames records stands) in
    by c.enter.result wrote
  where
    by : (result : Result (Unit {0}) StoreFault)
        → OnOk result (IsWritten c.args.change.now c.args.moment frames records c.make_room.new.store c.enter.new.store (g.H.Host.state c.enter.new.host))
        → OnOk result (IsWritten c.args.change.now c.args.moment frames records c.args.self.now c.enter.new.store (g.H.Host.state c.enter.new.host))
    by (Ok done) is =
        written_from c.args.change.now c.args.moment frames records c.args.self.now c.make_room.new.store c.enter.new.store (g.H.Host.state c.enter.new.host)
        (c.make_room.ensures.log c.in_default-make_room.ensures.plain.unspoilt) c.make_room.ensures.plain.same.firm is
    by (Err f) is = tt

pub returns-clause-told : goal.returns-clause-told
returns-clause-told g c told =
    let old = c.args.self.now in
    let mid = c.make_room.new.store in
    let new = c.enter.new.store in
    let a = g.H.Host.state c.args.host.now in
    let b = g.H.Host.state c.make_room.new.host in
    let d = g.H.Host.state c.enter.new.host in
    let unspoilt = c.in_default-make_room.ensures.plain.unspoilt in
    let same = c.make_room.ensures.content told unspoilt in
    let first = c.in_default-make_room.ensures.told told in
    let second = c.enter.ensures.told told in
    entered_after old mid new a b d c.args.change.now c.args.moment c.enter.result c.make_room.ensures.plain.same same first second (c.make_room.ensures.rows unspoilt) c.make_room.ensures.limit c.in_default-make_room.ensures.room

-- what it held goes on

pub returns-in-Some-clause-grows : goal.returns-in-Some-clause-grows
returns-in-Some-clause-grows g c told unspoilt = cc

pub returns-in-Err-clause-grows : goal.returns-in-Err-clause-grows
returns-in-Err-clause-grows g c told unspoilt frames records stands =
    let ens = c.make_room.ensures in
    grows_still c.args.self.now c.make_room.new.store (g.H.Host.state c.args.host.now) (g.H.Host.state c.make_room.new.host) frames records (ap number_of (ens.log unspoilt)) (ens.still told) (ens.kept told unspoilt frames records stands)

pub returns-clause-grows : goal.returns-clause-grows
returns-clause-grows g c told unspoilt frames records stands =
    let old = c.args.self.now in
    let mid = c.make_room.new.store in
    let a = g.H.Host.state c.args.host.now in
    let b = g.H.Host.state c.make_room.new.host in
    let d = g.H.Host.state c.enter.new.host in
    let ens = c.make_room.ensures in
    let sound = c.in_default-make_room.ensures.plain.unspoilt in
    let room = grows_still old mid a b frames records (ap number_of (ens.log sound)) (ens.still told) (ens.kept told sound frames records stands) in
    grows_then old mid c.enter.new.store a b d frames records room (c.enter.ensures.grows told unspoilt)
