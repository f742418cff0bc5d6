use Rattle.std.proofs.Common.{◌≡◌, ℕ, List, Option, Some, None, refl, sym, ◌∙◌, ap}
use Rattle.std.specs.Borrow.{Bor}
use Rattle.std.specs.Prelude.{option_map, option_copied}
use Rattle.cache_model.specs.declared.entries.Entry.{Entry}
use Rattle.store_trait.specs.Meaning.{read_in, seen, key_of}
use Rattle.cache_session.specs.Conditions.{refusal}
use Rattle.cache_session.proofs.Conditioning.{wrote, wrote_not, refused, unread}
use Rattle.cache_session.proofs.conditions.write_where.Goals as goal

copied : (o : Option (Bor Entry)) → option_map (λ (k : Bor Entry). k.now) o ≡ option_copied o
copied None = refl
copied (Some k) = refl

pub returns-in-Ok-apply-clause-wrote : goal.returns-in-Ok-apply-clause-wrote
returns-in-Ok-apply-clause-wrote g c told =
    let a = g.H.Host.state c.args.host.now in
    let b = g.H.Host.state c.peek.new.host in
    let d = g.H.Host.state c.apply.new.host in
    let s = g.S.Keyed.means c.args.store.now a in
    let entry : c.in-Ok.entry ≡ seen c.args.moment (read_in s.content (key_of c.args.change.now)) = c.in-Ok.ensures.entry told ∙ ap (λ (k : List ℕ). seen c.args.moment (read_in s.content k)) c.key_of.ensures in
    let holds : refusal c.args.condition.now c.in-Ok.entry ≡ None = ap (refusal c.args.condition.now) (sym (copied c.as_ref.result ∙ c.as_ref.ensures.value)) ∙ sym c.refusal.ensures ∙ c.in-None.is in
    wrote c.args.condition.now c.args.change.now (g.S.Keyed.facts c.args.store.now) (g.S.Keyed.facts c.peek.new.store) (g.S.Keyed.facts c.apply.new.store)
    s (g.S.Keyed.means c.peek.new.store b) (g.S.Keyed.means c.apply.new.store d) a b d c.args.moment c.in-Ok.entry
    c.in-Ok.ensures.plain.same (c.in-Ok.ensures.did told) entry holds c.in-Ok-apply.ensures.plain.same c.in-Ok-apply.field-0 (c.in-Ok-apply.ensures.did told)

pub returns-clause-wrote : goal.returns-clause-wrote
returns-clause-wrote g c told =
    let a = g.H.Host.state c.args.host.now in
    let b = g.H.Host.state c.peek.new.host in
    let d = g.H.Host.state c.apply.new.host in
    let s = g.S.Keyed.means c.args.store.now a in
    let entry : c.in-Ok.entry ≡ seen c.args.moment (read_in s.content (key_of c.args.change.now)) = c.in-Ok.ensures.entry told ∙ ap (λ (k : List ℕ). seen c.args.moment (read_in s.content k)) c.key_of.ensures in
    let holds : refusal c.args.condition.now c.in-Ok.entry ≡ None = ap (refusal c.args.condition.now) (sym (copied c.as_ref.result ∙ c.as_ref.ensures.value)) ∙ sym c.refusal.ensures ∙ c.in-None.is in
    wrote_not c.args.condition.now c.args.change.now (g.S.Keyed.facts c.args.store.now) (g.S.Keyed.facts c.peek.new.store) (g.S.Keyed.facts c.apply.new.store)
    s (g.S.Keyed.means c.peek.new.store b) (g.S.Keyed.means c.apply.new.store d) a b d c.args.moment c.in-Ok.entry
    c.in-Ok.ensures.plain.same (c.in-Ok.ensures.did told) entry holds c.in-Err-apply.ensures.plain.same c.in-Err-apply.fault (c.in-Err-apply.ensures.did told)

pub returns-in-Some-clause-wrote : goal.returns-in-Some-clause-wrote
returns-in-Some-clause-wrote g c told =
    let a = g.H.Host.state c.args.host.now in
    let b = g.H.Host.state c.peek.new.host in
    let s = g.S.Keyed.means c.args.store.now a in
    let entry : c.in-Ok.entry ≡ seen c.args.moment (read_in s.content (key_of c.args.change.now)) = c.in-Ok.ensures.entry told ∙ ap (λ (k : List ℕ). seen c.args.moment (read_in s.content k)) c.key_of.ensures in
    let holds : refusal c.args.condition.now c.in-Ok.entry ≡ Some c.in-Some.reply = ap (refusal c.args.condition.now) (sym (copied c.as_ref.result ∙ c.as_ref.ensures.value)) ∙ sym c.refusal.ensures ∙ c.in-Some.is in
    refused c.args.condition.now c.args.change.now (g.S.Keyed.facts c.args.store.now) (g.S.Keyed.facts c.peek.new.store)
    s (g.S.Keyed.means c.peek.new.store b) a b c.args.moment c.in-Ok.entry c.in-Some.reply (c.in-Ok.ensures.did told) entry holds

pub returns-in-Err-clause-wrote : goal.returns-in-Err-clause-wrote
returns-in-Err-clause-wrote g c told =
    let a = g.H.Host.state c.args.host.now in
    let b = g.H.Host.state c.peek.new.host in
    unread c.args.condition.now c.args.change.now (g.S.Keyed.facts c.args.store.now) (g.S.Keyed.facts c.peek.new.store)
    (g.S.Keyed.means c.args.store.now a) (g.S.Keyed.means c.peek.new.store b) a b c.args.moment c.in-Err.fault (c.in-Err.ensures.did told)
