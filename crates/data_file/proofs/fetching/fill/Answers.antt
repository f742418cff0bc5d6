use Rattle.std.proofs.Common.{arith}
use Rattle.data_file.proofs.Filled.{filled_more}
use Rattle.data_file.proofs.fetching.fill.Goals as goal

pub loop-known-preserved : goal.loop-known-preserved
loop-known-preserved g c =
    let ens = c.in_ok-count.ensures in
    filled_more c.args.name c.args.at c.loop-known.known c.in_ok-count.count c.args.buffer.now c.loop-known.buffer c.read_part.new.buffer g.H.Host.tells (g.H.Host.state c.args.host.now) (g.H.Host.state c.loop-known.host) (g.H.Host.state c.read_part.new.host)
    c.loop-known.invariant ens.told ens.within ens.long ens.front ens.cause c.loop-known-test.true (omega (arith, c.if-count-eq0.false))
