use Rattle.std.proofs.Common.{ap}
use Rattle.data_file.specs.declared.appender.Appender.{Appender}
use Rattle.data_file.proofs.Bytes.{record-short}
use Rattle.data_file.proofs.Standing.{counts-behind, first-behind, next-behind, appended, appended-first}
use Rattle.data_file.proofs.appender.Appender.append.Goals as goal

-- a record is no longer than its place can say
pub last-requires-clause-length : goal.last-requires-clause-length
last-requires-clause-length g c = record-short c.args.item.now c.requires.item

pub last-requires-else-self-clause-length : goal.last-requires-else-self-clause-length
last-requires-else-self-clause-length g c = record-short c.args.item.now c.requires.item

pub returns-in_err-write_behind-clause-images : goal.returns-in_err-write_behind-clause-images
returns-in_err-write_behind-clause-images g c told frames records stands =
    let old = g.H.Host.state c.args.host.now in
    let new = g.H.Host.state c.write_behind.new.host in
    counts-behind c.args.self.now old frames records stands new (first-behind c.args.self.now old frames records stands new c.args.item.now c.write_behind.result (c.write_behind.ensures.told told))

pub returns-in_ok-write_behind-clause-images : goal.returns-in_ok-write_behind-clause-images
returns-in_ok-write_behind-clause-images g c told frames records stands =
    let old = g.H.Host.state c.args.host.now in
    let new = g.H.Host.state c.write_behind.new.host in
    counts-behind c.args.self.now old frames records stands new (first-behind c.args.self.now old frames records stands new c.args.item.now c.write_behind.result (c.write_behind.ensures.told told))

pub returns-in_err-write_behind-3-clause-images : goal.returns-in_err-write_behind-3-clause-images
returns-in_err-write_behind-3-clause-images g c told frames records stands =
    let old = g.H.Host.state c.args.host.now in
    let begun = g.H.Host.state c.write_behind-else-self.new.host in
    let new = g.H.Host.state c.write_behind-else-self-2.new.host in
    let first = first-behind c.args.self.now old frames records stands begun _ c.write_behind-else-self.result (c.write_behind-else-self.ensures.told told) in
    counts-behind c.args.self.now old frames records stands new (next-behind c.args.self.now old frames records stands begun new c.write_behind-else-self.new.self 1 c.args.item.now c.write_behind-else-self-2.result c.in_ok-write_behind-2.ensures.grown first (c.write_behind-else-self-2.ensures.told told))

pub returns-in_ok-write_behind-clause-stands : goal.returns-in_ok-write_behind-clause-stands
returns-in_ok-write_behind-clause-stands g c told frames records one stands is spelled =
    appended c.args.self.now (g.H.Host.state c.args.host.now) frames records stands c.write_behind.new.self (g.H.Host.state c.write_behind.new.host) one c.args.item.now is spelled c.if-self.true c.in_ok-write_behind.ensures.grown (c.in_ok-write_behind.ensures.told told)

pub returns-in_ok-write_behind-3-clause-stands : goal.returns-in_ok-write_behind-3-clause-stands
returns-in_ok-write_behind-3-clause-stands g c told frames records one stands is spelled =
    let mid = c.write_behind-else-self.new.self in
    let grown = c.in_ok-write_behind-3.ensures.grown in
    appended-first c.args.self.now (g.H.Host.state c.args.host.now) frames records stands mid _ (g.H.Host.state c.write_behind-else-self.new.host) (g.H.Host.state c.write_behind-else-self-2.new.host) one c.args.item.now is spelled c.if-self.false c.in_ok-write_behind-2.ensures.grown
    (ap (λ (x : Appender). x.name) grown)
    (ap (λ (x : Appender). x.gate) grown)
    (ap (λ (x : Appender). x.versioned) grown)
    (ap (λ (x : Appender). x.size) grown)
    (c.in_ok-write_behind-2.ensures.told told)
    (c.in_ok-write_behind-3.ensures.told told)
