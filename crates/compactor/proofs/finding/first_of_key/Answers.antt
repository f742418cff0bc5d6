use Rattle.std.proofs.Common.{Option, sym, ◌∙◌, subst, false}
use Rattle.std.proofs.lemmas.List.Elements.{Contains-get_or}
use Rattle.append_log.specs.Current.{IsUsable, files_of}
use Rattle.compactor.specs.declared.finding.FoundEntry.{FoundEntry}
use Rattle.compactor.proofs.Searching.{Row, searched_none, searched_more, search_found, search_failed, search_none, as_sound, kept_log, failed_log, found_cause, failed_cause, none_cause}
use Rattle.compactor.proofs.finding.first_of_key.Goals as goal

abbrev none : Row
none = (record { hash = 0; file = 0; at = 0 }, record { length = 0; count = 0; gone = false })

pub loop-at-init : goal.loop-at-init
loop-at-init g c = searched_none c.args.key.now c.args.entries.now (files_of c.args.log.now) g.H.Host.tells (g.H.Host.state c.args.host.now)

pub fetch-requires-clause-usable : goal.fetch-requires-clause-usable
fetch-requires-clause-usable g c = subst IsUsable (sym c.loop-at.invariant.log) c.requires.usable

pub returns-in-Err-clause-log : goal.returns-in-Err-clause-log
returns-in-Err-clause-log g c = failed_log (Option FoundEntry) (files_of c.args.log.now) (files_of c.loop-at.log) (files_of c.fetch.new.self) c.in-Err.fault c.loop-at.invariant.log c.in-Err.ensures.leaves

pub returns-in-Err-clause-searches : goal.returns-in-Err-clause-searches
returns-in-Err-clause-searches g c told =
    search_failed c.args.key.now c.args.entries.now c.loop-at.at-index (files_of c.args.log.now) (files_of c.loop-at.log) g.H.Host.tells (g.H.Host.state c.args.host.now) (g.H.Host.state c.loop-at.host) (g.H.Host.state c.fetch.new.host)
    c.loop-at.invariant none c.loop-at-test.true c.requires.main c.entry_place.result c.entry_place.ensures told c.in-Err.fault (c.in-Err.ensures.told told)

pub returns-in-Err-clause-cause : goal.returns-in-Err-clause-cause
returns-in-Err-clause-cause g c =
    failed_cause (g.H.Host.state c.args.host.now) (g.H.Host.state c.loop-at.host) (g.H.Host.state c.fetch.new.host) c.in-Err.fault c.loop-at.invariant.faults c.loop-at.invariant.says c.in-Err.ensures.cause

pub returns-then-has_key-clause-log : goal.returns-then-has_key-clause-log
returns-then-has_key-clause-log g c = kept_log (files_of c.args.log.now) (files_of c.loop-at.log) (files_of c.fetch.new.self) c.requires.usable.sound c.loop-at.invariant.log c.in-Ok.ensures.leaves

pub returns-then-has_key-clause-among : goal.returns-then-has_key-clause-among
returns-then-has_key-clause-among g c = Contains-get_or c.args.entries.now c.loop-at.at-index none c.loop-at-test.true

pub returns-then-has_key-clause-searches : goal.returns-then-has_key-clause-searches
returns-then-has_key-clause-searches g c told =
    search_found c.args.key.now c.args.entries.now c.loop-at.at-index (files_of c.args.log.now) (files_of c.loop-at.log) g.H.Host.tells (g.H.Host.state c.args.host.now) (g.H.Host.state c.loop-at.host) (g.H.Host.state c.fetch.new.host)
    c.loop-at.invariant none c.loop-at-test.true c.requires.main c.entry_place.result c.entry_place.ensures told c.in-Ok.item (c.in-Ok.ensures.told told) (sym c.has_key.ensures ∙ c.if-has_key.true)

pub returns-then-has_key-clause-cause : goal.returns-then-has_key-clause-cause
returns-then-has_key-clause-cause g c =
    found_cause (g.H.Host.state c.args.host.now) (g.H.Host.state c.loop-at.host) (g.H.Host.state c.fetch.new.host) c.in-Ok.item _ c.loop-at.invariant.faults c.loop-at.invariant.says c.in-Ok.ensures.cause

pub loop-at-preserved : goal.loop-at-preserved
loop-at-preserved g c =
    searched_more c.args.key.now c.args.entries.now c.loop-at.at-index (files_of c.args.log.now) (files_of c.loop-at.log) g.H.Host.tells (g.H.Host.state c.args.host.now) (g.H.Host.state c.loop-at.host) (g.H.Host.state c.fetch.new.host)
    c.loop-at.invariant none c.loop-at-test.true c.requires.main c.entry_place.result c.entry_place.ensures (files_of c.fetch.new.self) c.in-Ok.item c.requires.usable.sound c.in-Ok.ensures.leaves c.in-Ok.ensures.told c.in-Ok.ensures.cause (sym c.has_key.ensures ∙ c.if-has_key.false)

pub returns-clause-log : goal.returns-clause-log
returns-clause-log g c = c.loop-at.invariant.log ∙ as_sound (files_of c.args.log.now) c.requires.usable.sound

pub returns-clause-searches : goal.returns-clause-searches
returns-clause-searches g c told = search_none c.args.key.now c.args.entries.now c.loop-at.at-index (files_of c.args.log.now) (files_of c.loop-at.log) g.H.Host.tells (g.H.Host.state c.args.host.now) (g.H.Host.state c.loop-at.host) c.loop-at.invariant c.loop-at-test.false told

pub returns-clause-cause : goal.returns-clause-cause
returns-clause-cause g c = none_cause (g.H.Host.state c.args.host.now) (g.H.Host.state c.loop-at.host) _ c.loop-at.invariant.faults c.loop-at.invariant.says
