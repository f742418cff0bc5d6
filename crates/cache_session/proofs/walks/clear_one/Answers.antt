use Rattle.std.proofs.Common.{◌≡◌, refl, ◌∙◌, ap, subst, [], ℕ, List, Option, Some, None}
use Rattle.std.specs.Prelude.{option_map, option_copied}
use Rattle.std.specs.Borrow.{Bor}
use Rattle.store_trait.specs.Calls.{IsNextKey}
use Rattle.cache_session.proofs.Keeping.{did_err}
use Rattle.cache_session.proofs.Clearing.{cleared_ok, cleared_err}
use Rattle.cache_session.proofs.walks.clear_one.Goals as goal

copied : (o : Option (Bor (List ℕ))) → option_map (λ (k : Bor (List ℕ)). k.now) o ≡ option_copied o
copied None = refl
copied (Some k) = refl

pub returns-in-Err-clause-cleared : goal.returns-in-Err-clause-cleared
returns-in-Err-clause-cleared g c told =
    let a = g.H.Host.state c.args.host.now in
    let b = g.H.Host.state c.first.new.host in
    let f = g.S.Keyed.facts c.args.store.now in
    let h = g.S.Keyed.facts c.first.new.store in
    let s = g.S.Keyed.means c.args.store.now a in
    let t = g.S.Keyed.means c.first.new.store b in
    record {
      next = None;
      did = did_err f h h.spoilt s t a b c.args.moment [] c.in-Err.fault (c.in-Err.ensures.did told);
      visible = λ key is. cc;
      first = tt;
      more = tt;
      stands_at = λ key is. tt;
    }

pub returns-in-Ok-apply-clause-cleared : goal.returns-in-Ok-apply-clause-cleared
returns-in-Ok-apply-clause-cleared g c told =
    let a = g.H.Host.state c.args.host.now in
    let b = g.H.Host.state c.first.new.host in
    let f = g.S.Keyed.facts c.args.store.now in
    let h = g.S.Keyed.facts c.first.new.store in
    let s = g.S.Keyed.means c.args.store.now a in
    let t = g.S.Keyed.means c.first.new.store b in
    let d = g.H.Host.state c.apply.new.host in
    let k = g.S.Keyed.facts c.apply.new.store in
    let u = g.S.Keyed.means c.apply.new.store d in
    let last = c.args.after.now in
    let next : IsNextKey f.bits c.args.moment s.content last (Some c.in-Some.key) =
    subst (λ (o : Option (List ℕ)). IsNextKey f.bits c.args.moment s.content last o) c.in-Some.is
    (subst (λ (o : Option (List ℕ)). IsNextKey f.bits c.args.moment s.content o c.in-Ok.next) (copied c.as_ref.result ∙ c.as_ref.ensures.value) (c.in-Ok.ensures.next told)) in
    cleared_ok f h k s t u a b d c.args.moment last (Some c.into_key.result) c.in-Some.key c.in-Ok.next c.in-Ok-apply.field-0
    c.in-Ok.ensures.plain.same c.in-Ok-apply.ensures.plain.same (c.in-Ok.ensures.did told) next (c.in-Ok-apply.ensures.did told) (ap (λ (x : List ℕ). Some x) c.into_key.ensures)

pub returns-in-Err-apply-clause-cleared : goal.returns-in-Err-apply-clause-cleared
returns-in-Err-apply-clause-cleared g c told =
    let a = g.H.Host.state c.args.host.now in
    let b = g.H.Host.state c.first.new.host in
    let f = g.S.Keyed.facts c.args.store.now in
    let h = g.S.Keyed.facts c.first.new.store in
    let s = g.S.Keyed.means c.args.store.now a in
    let t = g.S.Keyed.means c.first.new.store b in
    let d = g.H.Host.state c.apply.new.host in
    let k = g.S.Keyed.facts c.apply.new.store in
    let u = g.S.Keyed.means c.apply.new.store d in
    let last = c.args.after.now in
    let next : IsNextKey f.bits c.args.moment s.content last (Some c.in-Some.key) =
    subst (λ (o : Option (List ℕ)). IsNextKey f.bits c.args.moment s.content last o) c.in-Some.is
    (subst (λ (o : Option (List ℕ)). IsNextKey f.bits c.args.moment s.content o c.in-Ok.next) (copied c.as_ref.result ∙ c.as_ref.ensures.value) (c.in-Ok.ensures.next told)) in
    cleared_err f h k s t u a b d c.args.moment last last c.in-Some.key c.in-Ok.next c.in-Err-apply.fault
    c.in-Ok.ensures.plain.same c.in-Err-apply.ensures.plain.same (c.in-Ok.ensures.did told) next (c.in-Err-apply.ensures.did told)
