use Rattle.std.proofs.Common.{inl, ◌≡◌, ◌∙◌, Err, Ok, refl, sym, true, false}
use Rattle.store_trait.specs.Meaning.{changed, key_of}
use Rattle.store_trait.proofs.Runs.{kept_same}
use Rattle.soft_index.specs.declared.log_store.LogStore.{LogStore}
use Rattle.soft_index.specs.Store.{content_of, log_facts, log_means}
use Rattle.soft_index.proofs.Growing.{grows_then}
use Rattle.soft_index.proofs.Putting.{sealed_in, waits_in}
use Rattle.soft_index.proofs.Turning.{acts_both, acts_spoilt, plainly_then}
use Rattle.soft_index.proofs.store.enter.Goals as goal

pub returns-then-not-store-clause-wrote : goal.returns-then-not-store-clause-wrote
returns-then-not-store-clause-wrote g c told frames records stands =
    let old = c.args.store.now in
    waits_in c.args.change.now c.args.moment frames records old c.put.new.store (g.H.Host.state c.put.new.host) (sym c.put.ensures.plain.same.firm ∙ c.if-not-store.true) c.in_default.ensures.number (c.in_default.ensures.wrote told frames records stands)

pub returns-in-Err-seal-clause-told : goal.returns-in-Err-seal-clause-told
returns-in-Err-seal-clause-told g c told =
    let old = c.args.store.now in
    let mid = c.put.new.store in
    let last = c.seal.new.store in
    let new : LogStore = record last { parts = record last.parts { spoilt = true } } in
    let a = g.H.Host.state c.args.host.now in
    let b = g.H.Host.state c.put.new.host in
    let d = g.H.Host.state c.seal.new.host in
    let w = changed c.args.change.now (content_of old a.files) in
    let second = acts_spoilt {R = Unit {0}} mid last new b d c.args.moment (content_of mid b.files) (Err c.in-Err-seal.fault) refl (λ s is. is) (c.in-Err-seal.ensures.told told).acts in
    record {
      acts = acts_both {T = Unit {0}} {U = Unit {0}} (log_facts old) (log_facts mid) (log_facts new) (log_means old a) (log_means mid b) (log_means new d) a b d c.args.moment w (content_of mid b.files) (Ok tt) (Err c.in-Err-seal.fault)
          c.put.ensures.plain.same (c.in_default.ensures.told told) second (kept_same (log_facts old) c.args.moment w (content_of mid b.files) (c.in_default.ensures.content told)) (λ of sound. let no : true ≡ false = sound in cc) (λ of sound. let no : true ≡ false = sound in cc);
      content = tt;
      unchanged = λ of sound. let no : true ≡ false = sound in cc;
      kept = λ of sound. let no : true ≡ false = sound in cc;
      quiet = λ quiet. cc;
      firm = λ firm. tt;
      parts = tt;
    }

pub returns-clause-told : goal.returns-clause-told
returns-clause-told g c told =
    let old = c.args.store.now in
    let mid = c.put.new.store in
    let last = c.seal.new.store in
    let a = g.H.Host.state c.args.host.now in
    let b = g.H.Host.state c.put.new.host in
    let d = g.H.Host.state c.seal.new.host in
    let w = changed c.args.change.now (content_of old a.files) in
    let second = c.in_default-seal.ensures.told told in
    let queued = c.in_default.ensures.queued in
    record {
      acts = acts_both {T = Unit {0}} {U = Unit {0}} (log_facts old) (log_facts mid) (log_facts last) (log_means old a) (log_means mid b) (log_means last d) a b d c.args.moment w (content_of mid b.files) (Ok tt) (Ok tt)
          c.put.ensures.plain.same (c.in_default.ensures.told told) second.acts (kept_same (log_facts old) c.args.moment w (content_of mid b.files) (c.in_default.ensures.content told)) (λ of sound. cc) (λ of sound. cc);
      content = λ key. second.content key ∙ c.in_default.ensures.content told key;
      unchanged = λ of. cc;
      kept = λ of. cc;
      quiet = λ quiet. cc;
      firm = λ firm. second.settled.each (key_of c.args.change.now);
      parts = (queued.0, queued.1, queued.2, queued.3, second.parts ∙ queued.4);
    }

pub returns-clause-wrote : goal.returns-clause-wrote
returns-clause-wrote g c told frames records stands =
    let old = c.args.store.now in
    let mid = c.put.new.store in
    sealed_in c.args.change.now c.args.moment frames records old mid c.seal.new.store (g.H.Host.state c.put.new.host) (g.H.Host.state c.seal.new.host) (sym c.put.ensures.plain.same.firm ∙ c.if-not-store.false)
    c.in_default.ensures.number c.in_default-seal.ensures.number (c.in_default.ensures.wrote told frames records stands)
    (λ fs rs now. c.in_default-seal.ensures.wrote told fs rs now) (c.seal.ensures.others told)

pub returns-clause-plain : goal.returns-clause-plain
returns-clause-plain g c =
    plainly_then {T = Unit {0}} {U = Unit {0}} (log_facts c.args.store.now) (log_facts c.put.new.store) (log_facts c.seal.new.store) c.args.moment c.put.result (Ok tt) c.put.ensures.plain c.in_default-seal.ensures.plain

pub returns-in-Err-seal-clause-plain : goal.returns-in-Err-seal-clause-plain
returns-in-Err-seal-clause-plain g c =
    let last = c.seal.new.store in
    let new : LogStore = record last { parts = record last.parts { spoilt = true } } in
    let plain =
    plainly_then {T = Unit {0}} {U = Unit {0}} (log_facts c.args.store.now) (log_facts c.put.new.store) (log_facts last) c.args.moment c.put.result (Err c.in-Err-seal.fault) c.put.ensures.plain c.in-Err-seal.ensures.plain
    in
    record {
      same = record { bits = plain.same.bits; owns = plain.same.owns; ordered = plain.same.ordered; firm = plain.same.firm; forgets = plain.same.forgets; moves = plain.same.moves; empties = plain.same.empties; room = plain.same.room; steps = plain.same.steps; compacts = plain.same.compacts; turns = plain.same.turns; compacts_all = plain.same.compacts_all; turns_all = plain.same.turns_all; sweeps = plain.same.sweeps; counts = plain.same.counts };
      usable = λ sound. let no : true ≡ false = sound in cc;
      unspoilt = tt;
      spoilt = inl refl;
      late = plain.late;
      sequence = plain.sequence;
      files = plain.files;
    }

-- what it held goes on

pub returns-in-Err-seal-clause-grows : goal.returns-in-Err-seal-clause-grows
returns-in-Err-seal-clause-grows g c told unspoilt = cc

pub returns-clause-grows : goal.returns-clause-grows
returns-clause-grows g c told unspoilt frames records stands =
    let old = c.args.store.now in
    let mid = c.put.new.store in
    let a = g.H.Host.state c.args.host.now in
    let b = g.H.Host.state c.put.new.host in
    let d = g.H.Host.state c.seal.new.host in
    grows_then old mid c.seal.new.store a b d frames records (c.put.ensures.grows told c.in_default.ensures.plain.unspoilt frames records stands) (c.seal.ensures.grows told unspoilt)
