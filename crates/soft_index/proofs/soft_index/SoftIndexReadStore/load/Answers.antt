use Rattle.std.proofs.Common.{Ok, Err, arith}
use Rattle.soft_index.specs.Store.{content_of}
use Rattle.soft_index.specs.Turns.{run_facts, run_means}
use Rattle.soft_index.specs.Rule.{Allows}
use Rattle.soft_index.proofs.Ruled.{acts_answered, acts_ruled, answer_ruled, bytes_ruled, gone_kept, plain_ruled}
use Rattle.store_trait.specs.Meaning.{read_in}
use Rattle.soft_index.proofs.soft_index.SoftIndexReadStore.load.Goals as goal

pub returns-in-Err-clause-plain : goal.returns-in-Err-clause-plain
returns-in-Err-clause-plain g c =
    plain_ruled (run_facts c.args.self.now.log) (run_facts c.load.new.self) _ _ (Allows g.F.Fn c.args.self.now.forget) (λ k none. absurd none) (λ k none. absurd none) c.args.moment _ (λ is. (is.0, is.1, c.requires.ready.usable.2)) c.in-Err.ensures.plain

pub returns-in-Ok-clause-told : goal.returns-in-Ok-clause-told
returns-in-Ok-clause-told g c told =
    let old = c.args.self.now.log in
    let new = c.load.new.self in
    let rule = c.args.self.now.forget in
    let key = c.args.key.now in
    let a = g.H.Host.state c.args.host.now in
    let b = g.H.Host.state c.load.new.host in
    let first = c.in-Ok.ensures.told told in
    record {
      acts = acts_answered _ _ (run_means old a) (run_means new b) a b c.args.moment (content_of old.log a.files) c.in-Ok.answer c.by_rule.result
          (acts_ruled (run_facts old) (run_facts new) _ _ (Allows g.F.Fn rule) (λ k none. absurd none) (λ k none. absurd none) (run_means old a) (run_means new b) a b c.args.moment (content_of old.log a.files) (Ok c.in-Ok.answer) first.acts);
      content = first.content;
      answer = answer_ruled g.F.Fn rule key c.args.moment (read_in (content_of old.log a.files) key) c.in-Ok.answer c.by_rule.result c.by_rule.ensures first.answer;
      parts = first.parts;
      most = first.most;
      fetched = λ fetches. omega (arith, first.fetched fetches, bytes_ruled g.F.Fn rule key c.in-Ok.answer c.by_rule.result c.by_rule.ensures);
    }

pub returns-in-Err-clause-told : goal.returns-in-Err-clause-told
returns-in-Err-clause-told g c told =
    let old = c.args.self.now.log in
    let new = c.load.new.self in
    let a = g.H.Host.state c.args.host.now in
    let b = g.H.Host.state c.load.new.host in
    let first = c.in-Err.ensures.told told in
    record {
      acts = acts_ruled (run_facts old) (run_facts new) _ _ (Allows g.F.Fn c.args.self.now.forget) (λ k none. absurd none) (λ k none. absurd none) (run_means old a) (run_means new b) a b c.args.moment (content_of old.log a.files) (Err c.in-Err.fault) first.acts;
      content = first.content;
      answer = tt;
      parts = tt;
      most = first.most;
      fetched = first.fetched;
    }

pub returns-in-Ok-clause-kept : goal.returns-in-Ok-clause-kept
returns-in-Ok-clause-kept g c gone = gone_kept g.F.Fn c.args.self.now.forget c.args.key.now c.in-Ok.answer c.by_rule.result c.by_rule.ensures gone
