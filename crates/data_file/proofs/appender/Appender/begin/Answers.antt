use Rattle.data_file.proofs.Steps.{begun_wrote, begun_synced, begun_names, begun_counts}
use Rattle.data_file.proofs.appender.Appender.begin.Goals as goal

pub returns-in_err-write-clause-images : goal.returns-in_err-write-clause-images
returns-in_err-write-clause-images g c told =
    let old = g.H.Host.state c.args.host.now in
    let wrote = g.H.Host.state c.write.new.self in
    let fresh = c.requires.fresh told in
    begun_counts c.args.name old fresh wrote (begun_wrote c.args.name old fresh wrote c.write.result (c.write.ensures.told told))

pub returns-in_err-sync-clause-images : goal.returns-in_err-sync-clause-images
returns-in_err-sync-clause-images g c told =
    let old = g.H.Host.state c.args.host.now in
    let wrote = g.H.Host.state c.write.new.self in
    let synced = g.H.Host.state c.sync.new.self in
    let fresh = c.requires.fresh told in
    let first = begun_wrote c.args.name old fresh wrote c.write.result (c.write.ensures.told told) in
    begun_counts c.args.name old fresh synced (begun_synced c.args.name old fresh wrote synced c.sync.result first (c.sync.ensures.told told))

pub returns-in_err-sync_names-clause-images : goal.returns-in_err-sync_names-clause-images
returns-in_err-sync_names-clause-images g c told =
    let old = g.H.Host.state c.args.host.now in
    let wrote = g.H.Host.state c.write.new.self in
    let synced = g.H.Host.state c.sync.new.self in
    let named = g.H.Host.state c.sync_names.new.self in
    let fresh = c.requires.fresh told in
    let first = begun_wrote c.args.name old fresh wrote c.write.result (c.write.ensures.told told) in
    let second = begun_synced c.args.name old fresh wrote synced c.sync.result first (c.sync.ensures.told told) in
    begun_counts c.args.name old fresh named (begun_names c.args.name old fresh synced named c.sync_names.result second (c.sync_names.ensures.told told))

pub returns-clause-images : goal.returns-clause-images
returns-clause-images g c told =
    let old = g.H.Host.state c.args.host.now in
    let wrote = g.H.Host.state c.write.new.self in
    let synced = g.H.Host.state c.sync.new.self in
    let named = g.H.Host.state c.sync_names.new.self in
    let fresh = c.requires.fresh told in
    let first = begun_wrote c.args.name old fresh wrote c.write.result (c.write.ensures.told told) in
    let second = begun_synced c.args.name old fresh wrote synced c.sync.result first (c.sync.ensures.told told) in
    begun_counts c.args.name old fresh named (begun_names c.args.name old fresh synced named c.sync_names.result second (c.sync_names.ensures.told told))
