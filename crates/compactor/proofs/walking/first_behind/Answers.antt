use Rattle.std.specs.Prelude.{false, option_map}
use Rattle.append_log.specs.Current.{files_of}
use Rattle.compactor.proofs.Searching.{Row}
use Rattle.compactor.proofs.Seeking.{sought_more, seek_ends}
use Rattle.compactor.proofs.walking.first_behind.Goals as goal

abbrev none : Row
none = (record { hash = 0; file = 0; at = 0 }, record { length = 0; count = 0; gone = false })

pub loop-at-preserved : goal.loop-at-preserved
loop-at-preserved g c =
    sought_more (option_map (λ key. key.now) c.args.after) c.args.entries.now c.loop-at.at-index c.loop-at.best (files_of c.args.log.now) (files_of c.loop-at.log) g.H.Host.tells (g.H.Host.state c.args.host.now) (g.H.Host.state c.loop-at.host) (g.H.Host.state c.fetch.new.host)
    c.loop-at.invariant none c.loop-at-test.true c.requires.main c.entry_place.result c.entry_place.ensures (files_of c.fetch.new.self) c.in-Ok.item c.nearer-best.result c.requires.usable.sound c.in-Ok.ensures.leaves c.in-Ok.ensures.told c.in-Ok.ensures.cause c.nearer-best.ensures

pub returns-clause-seeks : goal.returns-clause-seeks
returns-clause-seeks g c told = seek_ends (option_map (λ key. key.now) c.args.after) c.args.entries.now c.loop-at.at-index c.loop-at.best (files_of c.args.log.now) (files_of c.loop-at.log) g.H.Host.tells (g.H.Host.state c.args.host.now) (g.H.Host.state c.loop-at.host) c.loop-at.invariant c.loop-at-test.false told
