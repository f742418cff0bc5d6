use Rattle.std.proofs.Common.{Some, ◌∙◌, false, ◌≡◌, Bool, [], ap, sym, subst, true}
use Rattle.cache_disk.specs.State.{Moves}
use Rattle.cache_disk.specs.Calls.{OnFile}
use Rattle.data_file.specs.Appending.{CountsOneOf, sealed, written}
use Rattle.append_log.specs.declared.log_files.LogFiles.{LogFiles}
use Rattle.append_log.specs.Current.{closed_frames, data_name, file_of, marked}
use Rattle.append_log.specs.Standing.{Stands, sealed_held}
use Rattle.cache_model.specs.Files.{file_in}
use Rattle.append_log.proofs.Ending.{tail_sealed, waiting_room}
use Rattle.append_log.proofs.Holding.{holds_on, holds_sealed, last-sealed, sealed_reads}
use Rattle.append_log.proofs.Steps.{file_standing, is_named}
use Rattle.cache_disk.proofs.Runs.{SameBut-same, Silent-same, Stands-same, started}
use Rattle.append_log.proofs.log_files.LogFiles.seal.Goals as goal

pub returns-clause-told : goal.returns-clause-told
returns-clause-told g c told held stands =
    let old = c.args.self.now in
    let new = c.seal_log.new.self in
    let a = g.H.Host.state c.args.host.now in
    let b = g.H.Host.state c.seal_log.new.host in
    let more = sealed held.frames held.records c.args.moment in
    let moves = c.seal_log.ensures.images told held.frames held.records stands.current in
    let unsealed : old.unsealed ≡ true = c.if-not-self.false in
    record {
      stands = subst (λ (u : Bool). Stands new b (sealed_held u c.args.moment held)) (sym unsealed)
          (subst (λ (x : LogFiles). Stands x b (record { closed = held.closed; frames = more; records = [] })) (sym c.seal_log.ensures.rest)
          (holds_on old new.log new.unsealed new.spoilt new.last new.mark a b held more [] (CountsOneOf held.frames more) stands moves (c.seal_log.ensures.others told)
          (c.in_default.ensures.stands told held.frames held.records stands.current) c.in_default.ensures.unsealed
          (c.in_default.ensures.last ∙ sym (last-sealed held.frames held.records c.args.moment)) (λ is. c.in_default.ensures.settled told)));
      images = subst (λ (u : Bool). Moves a b (OnFile (file_of old) (CountsOneOf held.frames (closed_frames u held.frames held.records c.args.moment)))) (sym unsealed) moves;
      files = c.seal_log.ensures.others told;
      reads = λ there.
          subst (λ (u : Bool). file_in b.files (file_of old) ≡ Some (written (closed_frames u held.frames held.records c.args.moment) [])) (sym unsealed)
          (subst (λ (x : LogFiles). file_in b.files (data_name x.store x.file) ≡ Some (written more [])) c.seal_log.ensures.rest
          (sealed_reads new.store new.log new.file b more (is_named new.store new.log new.file new.unsealed (c.seal_log.ensures.usable c.in_default.ensures.sound)) (c.seal_log.ensures.there ∙ there)
          (file_standing new.store new.log new.file b more [] (c.in_default.ensures.stands told held.frames held.records stands.current))));
      settled = c.in_default.ensures.settled told;
      silent = c.seal_log.ensures.silent told;
      refused = tt;
      still = λ is. let no : true ≡ false = sym unsealed ∙ is in cc;
    }

pub returns-then-not-self-clause-told : goal.returns-then-not-self-clause-told
returns-then-not-self-clause-told g c told held stands =
    let old = c.args.self.now in
    let a = g.H.Host.state c.args.host.now in
    let more = closed_frames old.unsealed held.frames held.records c.args.moment in
    let after = holds_sealed old a c.args.moment held c.if-not-self.true stands in
    record {
      stands = after;
      images = started a (OnFile (file_of old) (CountsOneOf held.frames more));
      files = SameBut-same (file_of old) a.files;
      reads = λ there. sealed_reads old.store old.log old.file a more (is_named old.store old.log old.file old.unsealed c.requires.usable.log) there after.current;
      settled = stands.rests c.if-not-self.true;
      silent = Silent-same a;
      refused = tt;
      still = λ is. Stands-same a;
    }

pub seal_log-requires-clause-room : goal.seal_log-requires-clause-room
seal_log-requires-clause-room g c =
    let old = c.args.self.now in
    waiting_room old.store old.log old.file old.unsealed c.requires.usable.log c.if-not-self.false

pub returns-clause-sealed : goal.returns-clause-sealed
returns-clause-sealed g c =
    let old = c.args.self.now in
    record {
      file = ap (λ (x : LogFiles). x.file) c.seal_log.ensures.rest;
      tail = c.in_default.ensures.tail ∙ tail_sealed old.store old.log old.file old.unsealed c.requires.usable.log c.if-not-self.false;
      mark = c.in_default.ensures.mark ∙ ap (λ (u : Bool). marked u old.mark c.args.moment) (sym c.if-not-self.false);
    }
