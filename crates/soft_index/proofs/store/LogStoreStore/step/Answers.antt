use Rattle.std.proofs.Common.{ap, inl, refl, Ok}
use Rattle.append_log.specs.Current.{number_of}
use Rattle.soft_index.specs.declared.log_store.LogStore.{LogStore}
use Rattle.soft_index.specs.Store.{content_of}
use Rattle.cache_model.specs.declared.replies.Turned.{Turned}
use Rattle.cache_model.specs.declared.replies.Turned.TheVariants.{Idle}
use Rattle.cache_disk.proofs.Runs.{Stands-same}
use Rattle.soft_index.proofs.Changes.{still_acts, as_was, idle_step}
use Rattle.soft_index.proofs.Growing.{grows_as_was, grows_still}
use Rattle.soft_index.proofs.store.LogStoreStore.step.Goals as goal

pub returns-in-Index-clause-grows : goal.returns-in-Index-clause-grows
returns-in-Index-clause-grows g c told unspoilt frames records stands =
    let old = c.args.self.now in
    let new = c.index.new.store in
    let a = g.H.Host.state c.args.host.now in
    let b = g.H.Host.state c.index.new.host in
    grows_still old new a b frames records (ap number_of (c.index.ensures.log unspoilt)) (c.index.ensures.still told) (c.index.ensures.kept told unspoilt frames records stands)

pub returns-clause-told : goal.returns-clause-told
returns-clause-told g c told =
    let old = c.args.self.now in
    let new : LogStore = record old { latest = c.args.moment } in
    let a = g.H.Host.state c.args.host.now in
    let stands = c.requires.stands told in
    record {
      acts = still_acts {R = Turned} old new a a c.args.moment (content_of old a.files) stands.0 stands.1 (Ok Idle) stands.2 c.requires.ready.unspoilt c.requires.ready.late refl (as_was old new a.files a.files refl (refl, refl, refl) refl (λ n. refl)) (Stands-same a)
          (λ d err. cc) (λ s err. cc) (λ err. cc);
      content = λ key. inl refl;
      marks = λ key r m may. inl refl;
      parts = idle_step c.args.kind _ c.in_default.not-Rotate c.in_default-kind.not-Index;
    }

pub returns-clause-grows : goal.returns-clause-grows
returns-clause-grows g c told unspoilt frames records stands =
    let old = c.args.self.now in
    let new : LogStore = record old { latest = c.args.moment } in
    let a = g.H.Host.state c.args.host.now in
    grows_as_was old new a a (as_was old new a.files a.files refl (refl, refl, refl) refl (λ n. refl)) c.requires.ready.late (Stands-same a) frames records stands
