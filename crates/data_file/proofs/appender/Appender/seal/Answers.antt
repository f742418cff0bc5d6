use Rattle.std.proofs.Common.{refl, ap, arith}
use Rattle.data_file.specs.declared.appender.Appender.{Appender}
use Rattle.data_file.proofs.Bytes.{length-ending}
use Rattle.data_file.proofs.Sealing.{end-written, second-call, third-call, fourth-call, after-calls}
use Rattle.data_file.proofs.appender.Appender.seal.Goals as goal

pub returns-in_err-write_end-clause-images : goal.returns-in_err-write_end-clause-images
returns-in_err-write_end-clause-images g c told frames records stands =
    let old = g.H.Host.state c.args.host.now in
    let ended = g.H.Host.state c.write_end.new.host in
    end-written c.args.self.now old frames records stands c.args.moment c.requires.moment c.requires.below ended c.write_end.result (c.write_end.ensures.told told)

pub returns-in_err-sync-clause-images : goal.returns-in_err-sync-clause-images
returns-in_err-sync-clause-images g c told frames records stands =
    let old = g.H.Host.state c.args.host.now in
    let ended = g.H.Host.state c.write_end.new.host in
    let synced = g.H.Host.state c.sync.new.self in
    let wrote = c.in_ok-write_end.ensures in
    second-call c.args.self.now old frames records stands c.args.moment c.requires.moment c.requires.below c.write_end.new.self wrote.grown ended synced c.sync.result (wrote.told told) (c.sync.ensures.told told)

pub returns-in_err-write-clause-images : goal.returns-in_err-write-clause-images
returns-in_err-write-clause-images g c told frames records stands =
    let old = g.H.Host.state c.args.host.now in
    let ended = g.H.Host.state c.write_end.new.host in
    let synced = g.H.Host.state c.sync.new.self in
    let opened = g.H.Host.state c.write.new.self in
    let wrote = c.in_ok-write_end.ensures in
    third-call c.args.self.now old frames records stands c.args.moment c.requires.moment c.requires.below c.write_end.new.self wrote.grown ended synced opened c.write.result (wrote.told told) (c.in_ok-sync.ensures.told told) (c.write.ensures.told told)

pub returns-in_err-sync-2-clause-images : goal.returns-in_err-sync-2-clause-images
returns-in_err-sync-2-clause-images g c told frames records stands =
    let old = g.H.Host.state c.args.host.now in
    let ended = g.H.Host.state c.write_end.new.host in
    let synced = g.H.Host.state c.sync.new.self in
    let opened = g.H.Host.state c.write.new.self in
    let last = g.H.Host.state c.sync-2.new.self in
    let wrote = c.in_ok-write_end.ensures in
    fourth-call c.args.self.now old frames records stands c.args.moment c.requires.moment c.requires.below c.write_end.new.self wrote.grown ended synced opened last c.sync-2.result (wrote.told told) (c.in_ok-sync.ensures.told told) (c.in_ok-write.ensures.told told) (c.sync-2.ensures.told told)

pub returns-clause-images : goal.returns-clause-images
returns-clause-images g c told frames records stands =
    let old = g.H.Host.state c.args.host.now in
    let ended = g.H.Host.state c.write_end.new.host in
    let synced = g.H.Host.state c.sync.new.self in
    let opened = g.H.Host.state c.write.new.self in
    let last = g.H.Host.state c.sync-2.new.self in
    let wrote = c.in_ok-write_end.ensures in
    fourth-call c.args.self.now old frames records stands c.args.moment c.requires.moment c.requires.below c.write_end.new.self wrote.grown ended synced opened last c.sync-2.result (wrote.told told) (c.in_ok-sync.ensures.told told) (c.in_ok-write.ensures.told told) (c.sync-2.ensures.told told)

pub returns-clause-size : goal.returns-clause-size
returns-clause-size g c =
    let old = c.args.self.now in
    let size = ap (λ (x : Appender). x.size) c.in_ok-write_end.ensures.grown in
    omega (arith, size, length-ending old.versioned c.args.moment)

pub returns-clause-stands : goal.returns-clause-stands
returns-clause-stands g c told frames records stands =
    let old = g.H.Host.state c.args.host.now in
    let ended = g.H.Host.state c.write_end.new.host in
    let synced = g.H.Host.state c.sync.new.self in
    let opened = g.H.Host.state c.write.new.self in
    let last = g.H.Host.state c.sync-2.new.self in
    let wrote = c.in_ok-write_end.ensures in
    let size = ap (λ (x : Appender). x.size) wrote.grown in
    after-calls c.args.self.now old frames records stands c.args.moment c.requires.moment c.requires.below c.write_end.new.self wrote.grown _ ended synced opened last (wrote.told told) (c.in_ok-sync.ensures.told told) (c.in_ok-write.ensures.told told) (c.in_ok-sync-2.ensures.told told)
    refl refl (omega (arith, size, length-ending c.args.self.now.versioned c.args.moment)) refl
