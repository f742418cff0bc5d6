-- What a layer above knows of an appender that stands: what each image counts, where its records are, and that it
-- stands on after calls that leave its file alone.
use Rattle.std.proofs.Common.{◌≡◌, ℕ, ◌+◌, false, List, [], ◌∷◌, ◌++◌, length, Some, Result, sym, ◌∙◌, ap, arith, append_assoc, length-append}
use Rattle.std.specs.Prelude.{flat_map}
use Rattle.cache_model.specs.declared.files.FileName.{FileName}
use Rattle.cache_model.specs.Files.{Image, file_in, is_name}
use Rattle.cache_model.specs.Items.{Item, end, spelling}
use Rattle.cache_model.specs.DataFiles.{Frame, file_spelling, CountsFrames, placed_items, placed_frames}
use Rattle.cache_model.proofs.Grammar.{placed-more}
use Rattle.cache_disk.specs.declared.host.HostFault.{HostFault}
use Rattle.cache_disk.specs.State.{HostState, SameFiles, SameBut, Moves, Stands}
use Rattle.cache_disk.specs.Calls.{OnFile, AllLeft, HasFile, Said}
use Rattle.cache_disk.proofs.Runs.{HasFile-weaker, left_still, Stands-moves, Said-moves}
use Rattle.data_file.specs.declared.appender.Appender.{Appender}
use Rattle.data_file.specs.Appending.{name_of, size_of, written, frame_start, next_place, StartsWith, StandsFor, IsSettled, sealed}
use Rattle.data_file.proofs.Bytes.{counts-start, frame_start-next}

-- what stands

module _ (appender : Appender) (a : HostState) (frames : List Frame) (records : List Item) (stands : StandsFor appender a frames records) where
  -- every image has the file, and counts just the sealed frames
  pub counted_now : AllLeft a (HasFile (name_of appender) (CountsFrames frames))
  counted_now m left = HasFile-weaker appender.name (StartsWith (file_spelling frames)) (CountsFrames frames) m (stands.images m left) (λ bytes starts. counts-start frames bytes stands.in_grammar starts)

  -- the file as it reads
  pub reads_now : file_in a.files (name_of appender) ≡ Some (written frames records)
  reads_now = stands.reads

  pub size_now : size_of appender ≡ length (written frames records)
  size_now = stands.size

  -- It stands on where the file reads as before and each step leaves the file in an image as it was.
  pub stands_on : (b : HostState) (step : Image → Image → Type 0)
      → file_in b.files (name_of appender) ≡ file_in a.files (name_of appender)
      → Moves a b step
      → ((d c : Image) → step d c → file_in c (name_of appender) ≡ file_in d (name_of appender))
      → StandsFor appender b frames records
  stands_on b step same moves keeps = record {
    in_grammar = stands.in_grammar;
    are_records = stands.are_records;
    reads = same ∙ stands.reads;
    size = stands.size;
    gate = stands.gate;
    versioned = stands.versioned;
    images = left_still a b step (HasFile appender.name (StartsWith (file_spelling frames))) moves stands.images
        (λ d c has took. record { bytes = has.bytes; there = keeps d c took ∙ has.there; file = has.file });
  }

  -- after calls that keep to another file
  pub stands_beside : (b : HostState) (other : FileName) (P : List ℕ → Type 0) → is_name other (name_of appender) ≡ false → SameBut other a.files b.files → Moves a b (OnFile other P) → StandsFor appender b frames records
  stands_beside b other P apart same moves = stands_on b (OnFile other P) (same appender.name apart) moves (λ d c step. step.others appender.name apart)

  -- after a call that changed nothing
  pub stands_still : (b : HostState) → Stands a b → StandsFor appender b frames records
  stands_still b still = stands_on b SameFiles (still.files appender.name) (Stands-moves a b SameFiles still) (λ d c same. same appender.name)

  -- after a call that said something
  pub stands_said : (b : HostState) (bytes : List ℕ) (answer : Result (Unit {0}) HostFault) → Said bytes a b answer → StandsFor appender b frames records
  stands_said b bytes answer said = stands_on b SameFiles (said.files appender.name) (Said-moves bytes a b answer said) (λ d c same. same appender.name)

-- a file that every image has as it reads stays so, where each step leaves it as it was
pub settled_on : (name : FileName) (a b : HostState) (step : Image → Image → Type 0)
    → IsSettled name a
    → file_in b.files name ≡ file_in a.files name
    → Moves a b step
    → ((d c : Image) → step d c → file_in c name ≡ file_in d name)
    → IsSettled name b
settled_on name a b step settled same moves keeps =
    let still : AllLeft b (λ m. file_in m name ≡ file_in a.files name) = left_still a b step (λ m. file_in m name ≡ file_in a.files name) moves settled (λ d c was took. keeps d c took ∙ was) in
    λ m left. still m left ∙ sym same

pub settled_beside : (name other : FileName) (a b : HostState) (P : List ℕ → Type 0) → IsSettled name a → is_name other name ≡ false → SameBut other a.files b.files → Moves a b (OnFile other P) → IsSettled name b
settled_beside name other a b P settled apart same moves = settled_on name a b (OnFile other P) settled (same name apart) moves (λ d c step. step.others name apart)

-- places

placed-append : (at : ℕ) (items others : List Item) → placed_items at (items ++ others) ≡ placed_items at items ++ placed_items (at + length (flat_map spelling items)) others
placed-append at [] others = ap (λ (n : ℕ). placed_items n others) (omega arith)
placed-append at (item ∷ items) others =
    ap (λ (l : List (ℕ × Item)). (at, item) ∷ l) (placed-append (at + length (spelling item)) items others)
    ∙ ap (λ (n : ℕ). placed_items at (item ∷ items) ++ placed_items n others) (omega (arith, length-append (spelling item) (flat_map spelling items)))

-- the items of the sealed frames and the records behind them, each with its place
abbrev pub placed_of : List Frame → List Item → List (ℕ × Item)
placed_of frames records = placed_frames 2 frames ++ placed_items (frame_start frames) records

-- a record that is appended has the next place
pub placed-push : (frames : List Frame) (records : List Item) (one : Item) → placed_of frames (records ++ one ∷ []) ≡ placed_of frames records ++ (next_place frames records, one) ∷ []
placed-push frames records one =
    ap (λ (l : List (ℕ × Item)). placed_frames 2 frames ++ l) (placed-append (frame_start frames) records (one ∷ []))
    ∙ sym (append_assoc (placed_frames 2 frames) (placed_items (frame_start frames) records) ((next_place frames records, one) ∷ []))

-- sealing leaves each item at its place, and the end has the next one
pub placed-sealed : (frames : List Frame) (records : List Item) (moment : ℕ) → placed_frames 2 (sealed frames records moment) ≡ placed_of frames records ++ (next_place frames records, end moment) ∷ []
placed-sealed frames records moment =
    placed-more frames (record { records = records; moment = moment })
    ∙ ap (λ (n : ℕ). placed_frames 2 frames ++ placed_items n (records ++ end moment ∷ [])) (sym (frame_start-next frames))
    ∙ placed-push frames records (end moment)
