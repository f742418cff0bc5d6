use Rattle.std.proofs.Common.{subst}
use Rattle.cache_model.specs.declared.files.FileName.{FileName}
use Rattle.data_file.specs.Fetching.{Fetches}
use Rattle.append_log.specs.Current.{data_name}
use Rattle.append_log.proofs.Fetched.{gives, spells_held}
use Rattle.append_log.proofs.Holding.{holds_still}
use Rattle.append_log.proofs.Steps.{is_named}
use Rattle.append_log.proofs.log_calls.Log.fetch.Goals as goal

pub returns-clause-wrote : goal.returns-clause-wrote
returns-clause-wrote g c told held item stands wrote there =
    let old = c.args.self.now.files in
    let a = g.H.Host.state c.args.host.now in
    let b = g.H.Host.state c.read_record-result.new.host in
    let bytes = spells_held old a held c.args.place item (is_named old.store old.log old.file old.unsealed c.requires.usable.log) stands wrote there in
    gives (data_name old.store c.args.place.file) c.args.place item a b c.read_record-result.result wrote.0 wrote.1 bytes
    (subst (λ (n : FileName). Fetches n c.args.place a b c.read_record-result.result) c.data_name-name.ensures (c.read_record-result.ensures.told told))

pub returns-clause-stands : goal.returns-clause-stands
returns-clause-stands g c told held stands =
    holds_still c.args.self.now.files _ (g.H.Host.state c.args.host.now) (g.H.Host.state c.read_record-result.new.host) held (c.read_record-result.ensures.told told).stands stands
