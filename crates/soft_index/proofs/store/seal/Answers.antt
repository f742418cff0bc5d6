use Rattle.std.proofs.Common.{◌≡◌, ◌∙◌, [], Err, Ok, is_some, refl, subst, sym, false, true}
use Rattle.data_file.specs.Appending.{CountsOneOf}
use Rattle.append_log.specs.Current.{files_of, tail_of}
use Rattle.append_log.specs.Standing.{Held, sealed_held}
use Rattle.cache_model.specs.Images.{log_name}
use Rattle.store_trait.specs.Keeping.{SameContent}
use Rattle.soft_index.specs.declared.log_store.LogStore.{LogStore}
use Rattle.soft_index.specs.Counted.{CountsWritten}
use Rattle.soft_index.specs.Store.{HoldsLog, closed_frames, content_of, main_files, number, waiting, writer}
use Rattle.soft_index.proofs.Growing.{closed_within, grows_as_was, grows_here, zero_same}
use Rattle.soft_index.proofs.Images.{other_name, settled_now}
use Rattle.soft_index.proofs.Changes.{as_was, draws_none, flushed_row, same_rows, still_stands}
use Rattle.soft_index.proofs.Standing.{content_same, sealed_records, stands_sealed}
use Rattle.soft_index.proofs.Turning.{from_main, named_main, sealed_parts, sealing_acts, seals_main, to_main}
use Rattle.soft_index.proofs.Written.{closed_live, counted_on, sealed_more, sealed_some}
use Rattle.soft_index.proofs.store.seal.Given as given
use Rattle.soft_index.proofs.store.seal.Goals as goal

pub seal-requires-clause-stands : goal.seal-requires-clause-stands
seal-requires-clause-stands g c told =
    let stands = c.requires.stands told in
    let held : Held = record { closed = stands.2.log.0; frames = stands.0; records = stands.1 } in
    (held, from_main c.args.store.now.parts.log.files (g.H.Host.state c.args.host.now) held c.requires.ready.usable.main stands.2.log.1)

pub returns-in-Err-clause-draws : goal.returns-in-Err-clause-draws
returns-in-Err-clause-draws g c =
    let old = c.args.store.now in
    let new : LogStore = record old { parts = record old.parts { log = c.seal.new.self; spoilt = c.is_spoilt-store.result }; latest = c.args.moment } in
    let takes = c.seal.ensures.takes in
    draws_none old new takes.0 takes.1 takes.2

pub returns-clause-draws : goal.returns-clause-draws
returns-clause-draws g c =
    let old = c.args.store.now in
    let new : LogStore = record old { parts = record old.parts { log = c.seal.new.self; stats = c.count_written.new.stats }; latest = c.args.moment } in
    let takes = c.seal.ensures.takes in
    draws_none old new takes.0 takes.1 takes.2

pub returns-in-Err-clause-told : goal.returns-in-Err-clause-told
returns-in-Err-clause-told g c told =
    let old = c.args.store.now in
    let new : LogStore = record old { parts = record old.parts { log = c.seal.new.self; spoilt = c.is_spoilt-store.result }; latest = c.args.moment } in
    let F = old.parts.log.files in
    let G = c.seal.new.self.files in
    let a = g.H.Host.state c.args.host.now in
    let b = g.H.Host.state c.seal.new.host in
    let stands = c.requires.stands told in
    let main = c.requires.ready.usable.main in
    let held : Held = record { closed = stands.2.log.0; frames = stands.0; records = stands.1 } in
    let after = λ (answer : Unit {0}). sealed_held F.unsealed c.args.moment held in
    let seals = seals_main {R = Unit {0}} F G a b c.args.moment held after (Err c.in-Err.fault) main (c.in-Err.ensures.told told held (from_main F a held main stands.2.log.1)) in
    let kept = λ (unspoilt : c.is_spoilt-store.result ≡ false). as_was old new a.files b.files (c.in-Err.ensures.goes.refused (sym c.is_spoilt-store.ensures ∙ unspoilt)).1 (refl, refl, refl) refl (λ n. (seals.refused (sym c.is_spoilt-store.ensures ∙ unspoilt)).files (log_name n)) in
    record {
      acts = sealing_acts {R = Unit {0}} old new a b stands.0 stands.1 c.args.moment stands.2.log.0 after G (Err c.in-Err.fault) stands.2 c.requires.ready.unspoilt c.requires.ready.late refl seals (λ unspoilt. (kept unspoilt).content)
          (λ unspoilt. (stands.0, stands.1, still_stands old new a b stands.0 stands.1 stands.2 (kept unspoilt) c.requires.ready.late (seals.refused (sym c.is_spoilt-store.ensures ∙ unspoilt))))
          c.in-Err.ensures.goes.damaged c.in-Err.ensures.unspent
          (λ err unspoilt. same_rows old new (kept unspoilt).files refl);
      content = tt;
      unchanged = λ of sound. (kept sound).content;
      settled = tt;
      parts = tt;
      flushed = tt;
    }

-- the statistics were brought up to what was written
counts : (g : given.Over) (c : goal.After-count_written g) → CountsWritten (tail_of (files_of c.args.store.now.parts.log)) (tail_of (files_of c.seal.new.self)) c.args.store.now.parts.stats c.count_written.new.stats
counts g c =
    let old = c.args.store.now in
    subst (λ t. CountsWritten t (tail_of (files_of c.seal.new.self)) old.parts.stats c.count_written.new.stats) c.tail-before.ensures
    (subst (λ t. CountsWritten c.tail-before.result t old.parts.stats c.count_written.new.stats) c.tail.ensures c.count_written.ensures)

pub returns-clause-wrote : goal.returns-clause-wrote
returns-clause-wrote g c told frames records stands =
    let old = c.args.store.now in
    let new : LogStore = record old { parts = record old.parts { log = c.seal.new.self; stats = c.count_written.new.stats }; latest = c.args.moment } in
    let F = old.parts.log.files in
    let G = c.seal.new.self.files in
    let a = g.H.Host.state c.args.host.now in
    let b = g.H.Host.state c.seal.new.host in
    let main = c.requires.ready.usable.main in
    let held : Held = record { closed = stands.log.0; frames = frames; records = records } in
    let after = λ (answer : Unit {0}). sealed_held F.unsealed c.args.moment held in
    let seals = seals_main {R = Unit {0}} F G a b c.args.moment held after (Ok tt) main (c.in_default.ensures.told told held (from_main F a held main stands.log.1)) in
    let goes = c.in_default.ensures.goes in
    let main_now = goes.store ∙ main in
    let more = closed_frames (waiting old) frames records c.args.moment in
    let log : HoldsLog (main_files new) b more [] = (stands.log.0, to_main G b (after tt) main_now seals.stands) in
    let named = named_main G main_now (goes.usable goes.ok) in
    let file : number new ≡ number old = c.in_default.ensures.sealed.file in
    let sealed : is_some (writer new) ≡ is_some (writer old) = sealed_some (writer old) (writer new) (number old) (number new) (waiting old) (waiting new) c.in_default.ensures.sealed.tail in
    stands_sealed old new a b frames records (CountsOneOf frames (closed_frames (waiting old) frames records c.args.moment)) stands c.in_default.ensures.sealed.file seals.images seals.files c.args.moment
    main_now log named stands.indexed
    (counted_on old new a b frames more records [] old.parts.stats stands log named refl refl (counts g c) file seals.files
    (λ some. sealed ∙ some) (λ none some. let no : false ≡ true = sym none ∙ sym sealed ∙ some in cc)
    (sealed_more (waiting old) frames records c.args.moment stands.log.1.pending) (closed_live old.parts.tree (number old) (waiting old) frames records c.args.moment stands.log.1.pending))
    c.in_default.ensures.takes.0 c.requires.ready.late refl

pub returns-clause-told : goal.returns-clause-told
returns-clause-told g c told =
    let old = c.args.store.now in
    let new : LogStore = record old { parts = record old.parts { log = c.seal.new.self; stats = c.count_written.new.stats }; latest = c.args.moment } in
    let F = old.parts.log.files in
    let G = c.seal.new.self.files in
    let a = g.H.Host.state c.args.host.now in
    let b = g.H.Host.state c.seal.new.host in
    let stands = c.requires.stands told in
    let main = c.requires.ready.usable.main in
    let held : Held = record { closed = stands.2.log.0; frames = stands.0; records = stands.1 } in
    let more = closed_frames (waiting old) stands.0 stands.1 c.args.moment in
    let after = λ (answer : Unit {0}). sealed_held F.unsealed c.args.moment held in
    let seals = seals_main {R = Unit {0}} F G a b c.args.moment held after (Ok tt) main (c.in_default.ensures.told told held (from_main F a held main stands.2.log.1)) in
    let now = returns-clause-wrote g c told stands.0 stands.1 stands.2 in
    let content : SameContent (content_of old a.files) (content_of new b.files) =
    content_same old new a b stands.0 more stands.1 [] stands.2 now
    (sealed_records old new a b stands.0 stands.1 (CountsOneOf stands.0 more) stands.2 c.in_default.ensures.sealed.file seals.images seals.files c.args.moment)
    in
    record {
      acts = sealing_acts {R = Unit {0}} old new a b stands.0 stands.1 c.args.moment stands.2.log.0 after G (Ok tt) stands.2 c.requires.ready.unspoilt c.requires.ready.late refl seals (λ unspoilt. content)
          (λ unspoilt. (more, [], now)) (λ d err. cc) (λ s err. cc) (λ err. cc);
      content = content;
      unchanged = λ of. cc;
      settled = settled_now new b more [] refl now;
      parts = sealed_parts old new refl c.in_default.ensures.sealed.tail;
      flushed = flushed_row _ _;
    }

pub returns-in-Err-clause-others : goal.returns-in-Err-clause-others
returns-in-Err-clause-others g c told =
    let F = c.args.store.now.parts.log.files in
    let G = c.seal.new.self.files in
    let a = g.H.Host.state c.args.host.now in
    let b = g.H.Host.state c.seal.new.host in
    let stands = c.requires.stands told in
    let main = c.requires.ready.usable.main in
    let held : Held = record { closed = stands.2.log.0; frames = stands.0; records = stands.1 } in
    (seals_main {R = Unit {0}} F G a b c.args.moment held (λ (answer : Unit {0}). sealed_held F.unsealed c.args.moment held) (Err c.in-Err.fault) main (c.in-Err.ensures.told told held (from_main F a held main stands.2.log.1))).files

pub returns-clause-others : goal.returns-clause-others
returns-clause-others g c told =
    let F = c.args.store.now.parts.log.files in
    let G = c.seal.new.self.files in
    let a = g.H.Host.state c.args.host.now in
    let b = g.H.Host.state c.seal.new.host in
    let stands = c.requires.stands told in
    let main = c.requires.ready.usable.main in
    let held : Held = record { closed = stands.2.log.0; frames = stands.0; records = stands.1 } in
    (seals_main {R = Unit {0}} F G a b c.args.moment held (λ (answer : Unit {0}). sealed_held F.unsealed c.args.moment held) (Ok tt) main (c.in_default.ensures.told told held (from_main F a held main stands.2.log.1))).files

pub returns-in-Err-clause-grows : goal.returns-in-Err-clause-grows
returns-in-Err-clause-grows g c told unspoilt frames records stands =
    let old = c.args.store.now in
    let new : LogStore = record old { parts = record old.parts { log = c.seal.new.self; spoilt = c.is_spoilt-store.result }; latest = c.args.moment } in
    let F = old.parts.log.files in
    let G = c.seal.new.self.files in
    let a = g.H.Host.state c.args.host.now in
    let b = g.H.Host.state c.seal.new.host in
    let main = c.requires.ready.usable.main in
    let held : Held = record { closed = stands.log.0; frames = frames; records = records } in
    let after = λ (answer : Unit {0}). sealed_held F.unsealed c.args.moment held in
    let seals = seals_main {R = Unit {0}} F G a b c.args.moment held after (Err c.in-Err.fault) main (c.in-Err.ensures.told told held (from_main F a held main stands.log.1)) in
    let sound = sym c.is_spoilt-store.ensures ∙ unspoilt in
    let kept = as_was old new a.files b.files (c.in-Err.ensures.goes.refused sound).1 (refl, refl, refl) refl (λ n. (seals.refused sound).files (log_name n)) in
    grows_as_was old new a b kept c.requires.ready.late (seals.refused sound) frames records stands

pub returns-clause-grows : goal.returns-clause-grows
returns-clause-grows g c told unspoilt frames records stands =
    let old = c.args.store.now in
    let new : LogStore = record old { parts = record old.parts { log = c.seal.new.self; stats = c.count_written.new.stats }; latest = c.args.moment } in
    let F = old.parts.log.files in
    let G = c.seal.new.self.files in
    let a = g.H.Host.state c.args.host.now in
    let b = g.H.Host.state c.seal.new.host in
    let main = c.requires.ready.usable.main in
    let held : Held = record { closed = stands.log.0; frames = frames; records = records } in
    let more = closed_frames (waiting old) frames records c.args.moment in
    let after = λ (answer : Unit {0}). sealed_held F.unsealed c.args.moment held in
    let seals = seals_main {R = Unit {0}} F G a b c.args.moment held after (Ok tt) main (c.in_default.ensures.told told held (from_main F a held main stands.log.1)) in
    let file : number new ≡ number old = c.in_default.ensures.sealed.file in
    record {
      fs = more;
      rs = [];
      holds = returns-clause-wrote g c told frames records stands;
      grows = grows_here old new a.files b.files file (λ n other. seals.files (log_name n) (other_name (number old) n other)) frames more records []
          (zero_same old a.files b.files c.requires.ready.usable.log.some (λ n other. seals.files (log_name n) (other_name (number old) n other)))
          (sealed_records old new a b frames records (CountsOneOf frames more) stands file seals.images seals.files c.args.moment).kept
          (closed_within (waiting old) frames records c.args.moment);
    }
