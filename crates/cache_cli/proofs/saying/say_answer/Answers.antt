use Rattle.std.proofs.Common.{refl, true}
use Rattle.cache_session.specs.Turns.{store_of}
use Rattle.cache_cli.specs.Run.{view_by}
use Rattle.cache_cli.proofs.Ending.{told, said_leaves}
use Rattle.cache_cli.proofs.saying.say_answer.Goals as goal

pub returns-clause-told : goal.returns-clause-told
returns-clause-told g c = λ tells from course ordered left talk taken hand.
    let session = c.args.session.now in
    let a = g.H.Host.state c.args.host.now in
    let b = g.H.Host.state c.say.new.host in
    let said = c.say.ensures.told tells in
    told (g.H.Host.state from) course ordered left talk taken c.args.bytes.now (view_by g.S.Keyed.facts g.S.Keyed.means session a) (view_by g.S.Keyed.facts g.S.Keyed.means session b) c.say.result hand refl refl
    (g.met.S.ReadStore.frame (store_of session) c.args.host.now c.say.new.host tells (said_leaves c.args.bytes.now a b c.say.result said (g.S.Keyed.facts (store_of session)).owns true))
    said
