-- What counts stands whole at its place.
use Rattle.std.proofs.Common.{◌≡◌, ⊎_elim, inl, inr, ℕ, ◌+◌, List, [], ◌∷◌, Option, Some, None, Contains, All, length, drop, sym, ◌∙◌, ap, subst, arith}
use Rattle.std.specs.Prelude.{unwrap_or}
use Rattle.std.proofs.lemmas.List.Elements.{All-contains, Contains-append_cases, Contains-append_left, Contains-append_right, Contains-push}
use Rattle.cache_model.specs.declared.files.FileName.{FileName}
use Rattle.cache_model.specs.Files.{Image, file_in, bytes_in}
use Rattle.cache_model.specs.Items.{Item, end, IsItem, IsRecord, spelling, whole, front}
use Rattle.cache_model.specs.DataFiles.{Frame, IsFrameAt, AreFrames, AreFramesAt, frame_spelling, items_of, placed_items, placed_frames}
use Rattle.cache_model.specs.Images.{log_name, IsCounted}
use Rattle.cache_model.proofs.Spelled.{front-spelling}
use Rattle.cache_disk.specs.State.{HostState}
use Rattle.data_file.specs.declared.appender.Appender.{Appender}
use Rattle.data_file.specs.Appending.{written, frame_start}
use Rattle.data_file.proofs.Frame.{placed_of}
use Rattle.data_file.proofs.Within.{counted_front, counted_item}
use Rattle.append_log.proofs.Fetched.{is_item as is_record_item}
use Rattle.append_log.proofs.Places.{contains_first, in_written}
use Rattle.compactor.specs.Counting.{AreThere}
use Rattle.soft_index.specs.declared.log_store.LogStore.{LogStore}
use Rattle.soft_index.specs.Store.{Holds, HoldsLog, IsNamed, IsFileOf, main_files, number, writer}

-- items within their limits

among_placed : (start : ℕ) (items : List Item) (at : ℕ) (item : Item) → Contains (placed_items start items) (at, item) → Contains items item
among_placed start [] at item within = absurd (omega (arith, within.1))
among_placed start (one ∷ items) at item within =
    ⊎_elim
    (λ is. subst (λ (i : Item). Contains (one ∷ items) i) (ap (λ (p : ℕ × Item). p.1) is) (Contains-append_left (one ∷ []) items one (Contains-push [] one)))
    (λ later. Contains-append_right (one ∷ []) items item (among_placed (start + length (spelling one)) items at item later))
    (contains_first (start, one) (placed_items (start + length (spelling one)) items) (at, item) within)

among_frame : (place start : ℕ) (frame : Frame) (at : ℕ) (item : Item) → IsFrameAt place frame → Contains (placed_items start (items_of frame)) (at, item) → IsItem item
among_frame place start frame at item is within =
    ⊎_elim
    (λ record_is. is_record_item item (All-contains IsRecord frame.records item is.records record_is))
    (λ last. ⊎_elim (λ end_is. subst IsItem end_is is.moment) (λ none. absurd (omega (arith, none.1))) (contains_first (end frame.moment) [] item last))
    (Contains-append_cases frame.records (end frame.moment ∷ []) item (among_placed start (items_of frame) at item within))

among_frames : (start : ℕ) (frames : List Frame) (at : ℕ) (item : Item) → AreFramesAt start frames → Contains (placed_frames start frames) (at, item) → IsItem item
among_frames start [] at item are within = absurd (omega (arith, within.1))
among_frames start (frame ∷ frames) at item are within =
    ⊎_elim
    (λ here. among_frame start start frame at item are.0 here)
    (λ later. among_frames (start + length (frame_spelling frame) + 1) frames at item are.1 later)
    (Contains-append_cases (placed_items start (items_of frame)) (placed_frames (start + length (frame_spelling frame) + 1) frames) (at, item) within)

among_written : (frames : List Frame) (records : List Item) (at : ℕ) (item : Item) → AreFrames frames → All IsRecord records → Contains (placed_of frames records) (at, item) → IsItem item
among_written frames records at item are all within =
    ⊎_elim
    (λ sealed. among_frames 2 frames at item are sealed)
    (λ waits. is_record_item item (All-contains IsRecord records item all (among_placed (frame_start frames) records at item waits)))
    (Contains-append_cases (placed_frames 2 frames) (placed_items (frame_start frames) records) (at, item) within)

-- the current file

bytes_there : (files : Image) (n : ℕ) (bytes : List ℕ) → file_in files (log_name n) ≡ Some bytes → bytes_in files (log_name n) ≡ bytes
bytes_there files n bytes is = ap (λ (found : Option (List ℕ)). unwrap_or found []) is

-- An item stands whole at its place, and is within its limits.
pub record StandsWhole (files : Image) (n at : ℕ) (item : Item) : Type 0 where
  pub is_item : IsItem item
  pub there : front (drop at (bytes_in files (log_name n))) ≡ whole item (length (spelling item))

in_current : (log : Option Appender) (file : ℕ) (a : HostState) (frames : List Frame) (records : List Item) (at : ℕ) (item : Item) → IsNamed 0 log file → IsFileOf 0 log file a frames records
    → Contains (placed_of frames records) (at, item) → StandsWhole a.files file at item
in_current None file a frames records at item named is within =
    let none = subst (λ (l : List Item). Contains (placed_of [] l) (at, item)) is.1 (subst (λ (l : List Frame). Contains (placed_of l records) (at, item)) is.0 within) in
    absurd (omega (arith, none.1))
in_current (Some log) file a frames records at item named is within =
    let fits = among_written frames records at item is.in_grammar is.are_records within in
    let spelled = in_written frames records at item within in
    let bytes = bytes_there a.files file (written frames records) (ap (λ (name : FileName). file_in a.files name) (sym named) ∙ is.reads) in
    record { is_item = fits; there = ap (λ (l : List ℕ). front (drop at l)) bytes ∙ ap front spelled.1 ∙ front-spelling item fits spelled.0 }

-- the other files
in_other : (files : Image) (n at : ℕ) (item : Item) → IsCounted files n at item → StandsWhole files n at item
in_other files n at item counted = record {
  is_item = counted_item counted.bytes at item counted.counted;
  there = ap (λ (l : List ℕ). front (drop at l)) (bytes_there files n counted.bytes counted.there) ∙ counted_front counted.bytes at item counted.counted;
}

pub stands_whole : (T : LogStore) (b : HostState) (frames : List Frame) (records : List Item) → HoldsLog (main_files T) b frames records → IsNamed 0 (writer T) (number T)
    → (n at : ℕ) (item : Item) → Holds (number T) (placed_of frames records) b.files n at item → StandsWhole b.files n at item
stands_whole T b frames records log named n at item (inl here) =
    subst (λ (k : ℕ). StandsWhole b.files k at item) (sym here.0) (in_current (writer T) (number T) b frames records at item named log.1.current here.1)
stands_whole T b frames records log named n at item (inr other) = in_other b.files n at item other.1

-- each record that counts is there, where the log holds its file
pub there_by : (T : LogStore) (b : HostState) (frames : List Frame) (records : List Item) → HoldsLog (main_files T) b frames records → IsNamed 0 (writer T) (number T)
    → AreThere (Holds (number T) (placed_of frames records) b.files) b.files
there_by T b frames records log named = record {
  is_item = λ n at item key counts of_key. (stands_whole T b frames records log named n at item counts).is_item;
  there = λ n at item key counts of_key. (stands_whole T b frames records log named n at item counts).there;
}
