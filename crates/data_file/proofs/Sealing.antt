-- The sealing of a frame, call by call: the end is written and synced, and then its gate is opened and synced.
use Rattle.std.proofs.Common.{◌≡◌, inl, ℕ, ◌+◌, ◌^◌, ◌<◌, Bool, true, List, [], ◌∷◌, ◌++◌, length, Some, Ok, refl, sym, ◌∙◌, ap, subst, arith, length-append}
use Rattle.std.proofs.lemmas.List.{take_all, take_at}
use Rattle.cache_model.specs.declared.files.FileName.{FileName}
use Rattle.cache_model.specs.Files.{file_in}
use Rattle.cache_model.specs.Items.{Item}
use Rattle.cache_model.specs.DataFiles.{Frame, frame_spelling, AreFrames, file_spelling}
use Rattle.cache_model.proofs.Grammar.{lead_of}
use Rattle.cache_disk.specs.State.{HostState, Moves}
use Rattle.cache_disk.specs.Calls.{OnFile, AllLeft, HasFile, Torn, overwritten, Wrote, Synced}
use Rattle.cache_disk.proofs.Runs.{weaker_on_file, left_on_file, left_weaker, first_on_file}
use Rattle.data_file.specs.declared.appender.Appender.{Appender}
use Rattle.data_file.specs.Appending.{written, ending, StartsWith, StandsFor, sealed, CountsOneOf}
use Rattle.data_file.proofs.Bytes.{staged, versioned-sealed, written-ending, written-none, length-staged, next_place-below, AreFrames-sealed, counts-start, gate-written, gate-torn}
use Rattle.data_file.proofs.Steps.{Answer, left_only, left_bytes, write_goes_on, sync_goes_on, settled_now, behind_synced, tears_on_file}
use Rattle.data_file.proofs.Standing.{bytes_in-some, file-behind, first-behind}

-- The state when the gate is to be opened: the run so far, and one and the same file in every image and as it reads.
pub record UpToGate (name : FileName) (a c : HostState) (frames more : List Frame) (bytes : List ℕ) : Type 0 where
  pub run : Moves a c (OnFile name (CountsOneOf frames more))
  pub each : AllLeft c (λ m. file_in m name ≡ Some bytes)
  pub reads : file_in c.files name ≡ Some bytes

module _ (appender : Appender) (a : HostState) (frames : List Frame) (records : List Item) (stands : StandsFor appender a frames records) (moment : ℕ) (is_moment : moment < 2 ^ 61) (short : appender.size < 2 ^ 32) where
  abbrev frame : Frame
  frame = record { records = records; moment = moment }

  abbrev more : List Frame
  more = sealed frames records moment

  abbrev ended : List ℕ
  ended = staged frames frame appender.gate stands.gate

  pub are_more : AreFrames more
  are_more = AreFrames-sealed frames records moment stands.in_grammar stands.are_records is_moment (next_place-below frames records (omega (arith, short, stands.size)))

  counts-before : (bytes : List ℕ) → StartsWith (file_spelling frames) bytes → CountsOneOf frames more bytes
  counts-before bytes starts = inl (counts-start frames bytes stands.in_grammar starts)

  counts-ended : CountsOneOf frames more ended
  counts-ended = counts-before ended (take_at (file_spelling frames) ((lead_of frames ++ frame_spelling frame) ++ 0 ∷ []) (length (file_spelling frames)) refl)

  -- the end is written
  pub end-written : (b : HostState) (answer : Answer) → Wrote appender.name appender.size (ending appender.versioned moment) a b answer → Moves a b (OnFile appender.name (CountsOneOf frames more))
  end-written b answer wrote =
      weaker_on_file a b appender.name (StartsWith (file_spelling frames)) (CountsOneOf frames more) (first-behind appender a frames records stands b (ending appender.versioned moment) answer wrote) counts-before

  -- and synced
  pub end-synced : (b c : HostState) (answer next : Answer) → Wrote appender.name appender.size (ending appender.versioned moment) a b answer → Synced appender.name b c next → Moves a c (OnFile appender.name (CountsOneOf frames more))
  end-synced b c answer next wrote synced =
      weaker_on_file a c appender.name (StartsWith (file_spelling frames)) (CountsOneOf frames more)
      (behind_synced appender.name (file_spelling frames) a stands.images b c next (first-behind appender a frames records stands b (ending appender.versioned moment) answer wrote) synced)
      counts-before

  pub end-reads : (b : HostState) → Wrote appender.name appender.size (ending appender.versioned moment) a b (Ok tt) → file_in b.files appender.name ≡ Some ended
  end-reads b wrote =
      file-behind appender.name appender.size (written frames records) (ending appender.versioned moment) a b stands.reads stands.size wrote.written
      ∙ ap (λ (v : Bool). Some (written frames records ++ ending v moment)) stands.versioned
      ∙ ap (λ (l : List ℕ). Some l) (written-ending frames records moment)

  -- so the gate may be opened
  pub up-to-gate : (b c : HostState) → Wrote appender.name appender.size (ending appender.versioned moment) a b (Ok tt) → Synced appender.name b c (Ok tt) → UpToGate appender.name a c frames more ended
  up-to-gate b c wrote synced =
      let reads : file_in c.files appender.name ≡ Some ended = synced.files appender.name ∙ end-reads b wrote in
      let has = left_on_file a b appender.name (StartsWith (file_spelling frames)) (first-behind appender a frames records stands b (ending appender.versioned moment) (Ok tt) wrote) stands.images in
      let settled = settled_now appender.name (StartsWith (file_spelling frames)) b c synced.turn.ok synced.settled synced.files has in
      record {
        run = end-synced b c (Ok tt) (Ok tt) wrote synced;
        each = left_weaker c (λ m. file_in m appender.name ≡ file_in c.files appender.name) (λ m. file_in m appender.name ≡ Some ended) settled (λ m is. is ∙ reads);
        reads = reads;
      }

  -- the gate is opened
  pub gate-opened : (c d : HostState) (answer : Answer) → UpToGate appender.name a c frames more ended → Wrote appender.name appender.gate (1 ∷ []) c d answer → Moves a d (OnFile appender.name (CountsOneOf frames more))
  gate-opened c d answer so_far wrote =
      write_goes_on appender.name (CountsOneOf frames more) a c d appender.gate (1 ∷ []) answer so_far.run wrote
      (λ e old new left is torn.
      let was : file_in e appender.name ≡ Some ended = so_far.each e left in
      let same : old ≡ ended = cc in
      gate-torn frames frame appender.gate stands.gate new stands.in_grammar are_more (subst (λ (l : List ℕ). Torn appender.gate 1 l new) same torn))

  gate-has : (c d : HostState) (answer : Answer) → UpToGate appender.name a c frames more ended → Wrote appender.name appender.gate (1 ∷ []) c d answer → AllLeft d (HasFile appender.name (CountsOneOf frames more))
  gate-has c d answer so_far wrote =
      let has : AllLeft c (HasFile appender.name (CountsOneOf frames more)) = left_bytes c appender.name ended so_far.each (CountsOneOf frames more) counts-ended in
      let run : Moves c d (OnFile appender.name (CountsOneOf frames more)) = first_on_file c d appender.name (CountsOneOf frames more) _ wrote.turn.images
      (λ e m left step. tears_on_file appender.name (CountsOneOf frames more) appender.gate 1 e m step (λ old new is torn.
      let was : file_in e appender.name ≡ Some ended = so_far.each e left in
      let same : old ≡ ended = cc in
      gate-torn frames frame appender.gate stands.gate new stands.in_grammar are_more (subst (λ (l : List ℕ). Torn appender.gate 1 l new) same torn))) in
      left_on_file c d appender.name (CountsOneOf frames more) run has

  -- and synced
  pub gate-synced : (c d e : HostState) (answer next : Answer) → UpToGate appender.name a c frames more ended → Wrote appender.name appender.gate (1 ∷ []) c d answer → Synced appender.name d e next → Moves a e (OnFile appender.name (CountsOneOf frames more))
  gate-synced c d e answer next so_far wrote synced =
      sync_goes_on appender.name (CountsOneOf frames more) a d e next (gate-opened c d answer so_far wrote) (left_only appender.name (CountsOneOf frames more) d (gate-has c d answer so_far wrote)) synced

  -- the frame is sealed
  pub seals : (after : Appender) (c d e : HostState) → UpToGate appender.name a c frames more ended
      → Wrote appender.name appender.gate (1 ∷ []) c d (Ok tt)
      → Synced appender.name d e (Ok tt)
      → after.name ≡ appender.name
      → after.size ≡ appender.size + length (ending appender.versioned moment)
      → after.gate + 1 ≡ after.size
      → after.versioned ≡ true
      → StandsFor after e more []
  seals after c d e so_far wrote synced name size gate versioned =
      let opened : file_in d.files appender.name ≡ Some (file_spelling more) =
      wrote.written ∙ ap (λ (l : List ℕ). Some (overwritten l appender.gate (1 ∷ []))) (bytes_in-some c.files appender.name ended so_far.reads)
      ∙ ap (λ (l : List ℕ). Some l) (gate-written frames frame appender.gate stands.gate) in
      let reads : file_in e.files appender.name ≡ Some (file_spelling more) = synced.files appender.name ∙ opened in
      let settled = settled_now appender.name (CountsOneOf frames more) d e synced.turn.ok synced.settled synced.files (gate-has c d (Ok tt) so_far wrote) in
      let each : AllLeft e (λ m. file_in m appender.name ≡ Some (file_spelling more)) = λ m left. settled m left ∙ reads in
      let length-ended : length (written frames records ++ ending appender.versioned moment) ≡ length (file_spelling more) =
      ap (λ (v : Bool). length (written frames records ++ ending v moment)) stands.versioned ∙ ap length (written-ending frames records moment) ∙ length-staged frames frame in
      let whole : after.size ≡ length (file_spelling more) = size ∙ omega (arith, stands.size, length-append (written frames records) (ending appender.versioned moment), length-ended) in
      record {
        in_grammar = are_more;
        are_records = λ k d below. absurd (omega (arith, below));
        reads = ap (λ (n : FileName). file_in e.files n) name ∙ reads ∙ ap (λ (l : List ℕ). Some l) (sym (written-none more));
        size = whole ∙ ap length (sym (written-none more));
        gate = gate ∙ whole;
        versioned = versioned ∙ sym (versioned-sealed frames records moment);
        images = subst (λ (n : FileName). AllLeft e (λ m. HasFile n (StartsWith (file_spelling more)) m)) (sym name) (left_bytes e appender.name (file_spelling more) each (StartsWith (file_spelling more)) (take_all (length (file_spelling more)) (file_spelling more) (omega arith)));
      }

  -- The appender after its end was written has the same file and the same gate, so the calls after it go on from there.
  module _ (mid : Appender) (grown : mid ≡ record appender { size = appender.size + length (ending appender.versioned moment) }) where
    name-is : mid.name ≡ appender.name
    name-is = ap (λ (x : Appender). x.name) grown

    synced-is : (b c : HostState) (answer : Answer) → Synced mid.name b c answer → Synced appender.name b c answer
    synced-is b c answer synced = subst (λ (n : FileName). Synced n b c answer) name-is synced

    wrote-is : (c d : HostState) (answer : Answer) → Wrote mid.name mid.gate (1 ∷ []) c d answer → Wrote appender.name appender.gate (1 ∷ []) c d answer
    wrote-is c d answer wrote =
        subst (λ (at : ℕ). Wrote appender.name at (1 ∷ []) c d answer) (ap (λ (x : Appender). x.gate) grown)
        (subst (λ (n : FileName). Wrote n mid.gate (1 ∷ []) c d answer) name-is wrote)

    pub second-call : (b c : HostState) (next : Answer) → Wrote appender.name appender.size (ending appender.versioned moment) a b (Ok tt) → Synced mid.name b c next → Moves a c (OnFile appender.name (CountsOneOf frames more))
    second-call b c next wrote synced = end-synced b c (Ok tt) next wrote (synced-is b c next synced)

    pub third-call : (b c d : HostState) (next : Answer) → Wrote appender.name appender.size (ending appender.versioned moment) a b (Ok tt) → Synced mid.name b c (Ok tt)
        → Wrote mid.name mid.gate (1 ∷ []) c d next → Moves a d (OnFile appender.name (CountsOneOf frames more))
    third-call b c d next wrote synced opens = gate-opened c d next (up-to-gate b c wrote (synced-is b c (Ok tt) synced)) (wrote-is c d next opens)

    pub fourth-call : (b c d e : HostState) (next : Answer) → Wrote appender.name appender.size (ending appender.versioned moment) a b (Ok tt) → Synced mid.name b c (Ok tt)
        → Wrote mid.name mid.gate (1 ∷ []) c d (Ok tt) → Synced mid.name d e next → Moves a e (OnFile appender.name (CountsOneOf frames more))
    fourth-call b c d e next wrote synced opens last =
        gate-synced c d e (Ok tt) next (up-to-gate b c wrote (synced-is b c (Ok tt) synced)) (wrote-is c d (Ok tt) opens) (synced-is d e next last)

    pub after-calls : (after : Appender) (b c d e : HostState) → Wrote appender.name appender.size (ending appender.versioned moment) a b (Ok tt) → Synced mid.name b c (Ok tt)
        → Wrote mid.name mid.gate (1 ∷ []) c d (Ok tt) → Synced mid.name d e (Ok tt)
        → after.name ≡ mid.name → after.size ≡ mid.size → after.gate + 1 ≡ after.size → after.versioned ≡ true
        → StandsFor after e more []
    after-calls after b c d e wrote synced opens last name size gate versioned =
        seals after c d e (up-to-gate b c wrote (synced-is b c (Ok tt) synced)) (wrote-is c d (Ok tt) opens) (synced-is d e (Ok tt) last)
        (name ∙ name-is) (size ∙ ap (λ (x : Appender). x.size) grown) gate versioned
