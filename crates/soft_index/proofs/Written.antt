-- The statistics, once something was written and they were brought up to it.
use Rattle.std.proofs.Common.{◌≡◌, ⊎_elim, ℕ, ◌+◌, ◌^◌, ◌<◌, ◌≤◌, true, false, Bool, List, [], ◌∷◌, ◌++◌, length, Option, Some, None, is_some, refl, sym, ap, subst, ◌∙◌, arith}
use Rattle.std.specs.Prelude.{unwrap_or}
use Rattle.std.proofs.lemmas.Bool.{cases_eq}
use Rattle.std.proofs.lemmas.List.{append-nil, length-append}
use Rattle.cache_model.specs.Files.{file_in, bytes_in}
use Rattle.cache_model.specs.Items.{Item, end, spelling}
use Rattle.cache_model.specs.DataFiles.{Frame, CountsFrames, counted_items, placed_frames}
use Rattle.cache_model.specs.Images.{log_name}
use Rattle.cache_model.proofs.Grammar.{counts-file}
use Rattle.cache_disk.specs.State.{HostState, SameBut}
use Rattle.data_file.specs.declared.appender.Appender.{Appender}
use Rattle.data_file.specs.Appending.{ending, is_versioned, next_place, sealed, written}
use Rattle.data_file.proofs.Bytes.{due_version, length-ending, length-staged, written-ending, written-none, written-push}
use Rattle.data_file.proofs.Frame.{placed_of, placed-push, placed-sealed}
use Rattle.append_log.specs.Current.{IsLogOf, IsUsable as IsUsableLog, files_of, next_file, tail_by, tail_of}
use Rattle.append_log.specs.Standing.{IsClosedIn, waits}
use Rattle.append_log.specs.Calls.{SameBeside, sealed_tail}
use Rattle.append_log.proofs.Holding.{next_most, none_waits}
use Rattle.file_stats.specs.Figures.{Figures}
use Rattle.tree_index.specs.Index.{Index}
use Rattle.compactor.specs.Counting.{Kept}
use Rattle.compactor.specs.Figuring.{has_entry, items_of, live_in}
use Rattle.soft_index.specs.declared.log_store.LogStore.{LogStore}
use Rattle.soft_index.specs.Counted.{AreCounted, CountsWritten, closed_size}
use Rattle.soft_index.specs.Store.{HoldsLog, IsFileOf, IsNamed, LogStands, closed_frames, main_files, number, waiting, writer}
use Rattle.soft_index.proofs.Counted.{counted_by, counted_rows, items_here, items_other, live_push, lives_of}
use Rattle.soft_index.proofs.Counting.{items-counted}
use Rattle.soft_index.proofs.Images.{other_name}
use Rattle.soft_index.proofs.Raised.{AreRows, same_rows}
use Rattle.soft_index.proofs.Sizes.{read_size, rows_closed, rows_on, sizes_in}
use Rattle.soft_index.proofs.Standing.{rests_none}

-- sealing

-- a file with one frame more is as long as with the bytes that end it
ended_length : (frames : List Frame) (records : List Item) (moment : ℕ) → length (written frames records) + length (ending (is_versioned frames records) moment) ≡ length (written (sealed frames records moment) [])
ended_length frames records moment =
    let one : Frame = record { records = records; moment = moment } in
    sym (length-append (written frames records) (ending (is_versioned frames records) moment)) ∙ ap length (written-ending frames records moment) ∙ length-staged frames one
    ∙ sym (ap length (written-none (sealed frames records moment)))

-- the end of a frame is 10 bytes
sealed_length : (frames : List Frame) (records : List Item) (moment : ℕ) → waits records ≡ true → length (written (sealed frames records moment) []) ≡ length (written frames records) + 10
sealed_length frames records moment some =
    let ends : length (ending (is_versioned frames records) moment) ≡ 10 = ap (λ v. length (ending v moment)) (versioned frames records some) ∙ length-ending true moment in
    omega (arith, ended_length frames records moment, ends)
  where
    versioned : (fs : List Frame) (rs : List Item) → waits rs ≡ true → is_versioned fs rs ≡ true
    versioned [] [] none = cc
    versioned [] (item ∷ items) is = refl
    versioned (frame ∷ rest) items is = refl

-- a file is no smaller once it is closed, by what waited in it
pub closed_length : (n size : ℕ) (u : Bool) (frames : List Frame) (records : List Item) (moment : ℕ) → u ≡ waits records → size ≡ length (written frames records) → size + 10 < 2 ^ 64
    → length (written (closed_frames u frames records moment) []) ≡ closed_size size u
closed_length n size true frames records moment is long fits = let more = sealed_length frames records moment (sym is) in omega (arith, more, long, fits)
closed_length n size false frames records moment is long fits = ap (λ (l : List Item). length (written frames l)) (sym (none_waits records (sym is))) ∙ sym long

closed_more : (n size : ℕ) (u : Bool) → size + 10 < 2 ^ 64 → size ≤ closed_size size u
closed_more n size true fits = omega (arith, fits)
closed_more n size false fits = omega arith

pub ended_more : (u : Bool) (frames : List Frame) (records : List Item) (moment : ℕ) → (u ≡ false → records ≡ []) → length (written frames records) ≤ length (written (closed_frames u frames records moment) [])
ended_more true frames records moment none = omega (arith, ended_length frames records moment)
ended_more false frames records moment none = omega (arith, ap (λ (l : List Item). length (written frames l)) (none refl))

pub sealed_more : (u : Bool) (frames : List Frame) (records : List Item) (moment : ℕ) → u ≡ waits records → length (written frames records) ≤ length (written (closed_frames u frames records moment) [])
sealed_more u frames records moment is = ended_more u frames records moment (rests_none u records is)

-- the end of a frame isn't live
pub ended_live : (index : Index) (n : ℕ) (u : Bool) (frames : List Frame) (records : List Item) (moment : ℕ) → (u ≡ false → records ≡ [])
    → live_in index n (placed_of (closed_frames u frames records moment) []) ≡ live_in index n (placed_of frames records)
ended_live index n true frames records moment none =
    ap (λ (l : List (ℕ × Item)). live_in index n l) (append-nil (placed_frames 2 (sealed frames records moment)) ∙ placed-sealed frames records moment)
    ∙ live_push index n (placed_of frames records) (next_place frames records, end moment) refl
ended_live index n false frames records moment none = ap (λ (l : List Item). live_in index n (placed_of frames l)) (sym (none refl))

pub closed_live : (index : Index) (n : ℕ) (u : Bool) (frames : List Frame) (records : List Item) (moment : ℕ) → u ≡ waits records
    → live_in index n (placed_of (closed_frames u frames records moment) []) ≡ live_in index n (placed_of frames records)
closed_live index n u frames records moment is = ended_live index n u frames records moment (rests_none u records is)

-- one record more

pub pushed_more : (frames : List Frame) (records : List Item) (one : Item) → length (written frames records) ≤ length (written frames (records ++ one ∷ []))
pushed_more frames records one =
    omega (arith, ap length (written-push frames records one), length-append (written frames records ++ due_version frames records) (spelling one), length-append (written frames records) (due_version frames records))

pub pushed_live : (index : Index) (n : ℕ) (frames : List Frame) (records : List Item) (one : Item) → has_entry index n (next_place frames records, one) ≡ false
    → live_in index n (placed_of frames (records ++ one ∷ [])) ≡ live_in index n (placed_of frames records)
pushed_live index n frames records one none = ap (λ (l : List (ℕ × Item)). live_in index n l) (placed-push frames records one) ∙ live_push index n (placed_of frames records) (next_place frames records, one) none

-- the log

pub sealed_some : (L M : Option Appender) (n m : ℕ) (u v : Bool) → tail_by M m v ≡ sealed_tail (tail_by L n u) → is_some M ≡ is_some L
sealed_some None None n m u v is = refl
sealed_some None (Some log) n m u v is = cc
sealed_some (Some log) None n m u v is = cc
sealed_some (Some log) (Some next) n m u v is = refl

no_items : (log : Option Appender) (n : ℕ) (a : HostState) (frames : List Frame) (records : List Item) → is_some log ≡ false → IsFileOf 0 log n a frames records → placed_of frames records ≡ []
no_items None n a frames records none is = ap (λ (l : List Frame). placed_of l records) is.0 ∙ ap (λ (l : List Item). placed_of [] l) is.1
no_items (Some log) n a frames records none is = cc

-- the log's file is far from the end of 64 bits
short_log : (log : Appender) (store n : ℕ) (u : Bool) → IsLogOf store (Some log) n u → log.size + 10 < 2 ^ 64
short_log log store n u is = omega (arith, is.3)

module _ (S T : LogStore) (a b : HostState) (frames fs : List Frame) (records rs : List Item) (old : Figures)
    (stands : LogStands S a frames records)
    (log : HoldsLog (main_files T) b fs rs)
    (named : IsNamed 0 (writer T) (number T))
    (rows : old.rows ≡ S.parts.stats.rows)
    (tree : T.parts.tree ≡ S.parts.tree)
    (counts : CountsWritten (tail_of (files_of S.parts.log)) (tail_of (files_of T.parts.log)) old T.parts.stats) where
  abbrev before : Kept
  before = record { number = number S; items = placed_of frames records; files = a.files }

  abbrev after : Kept
  after = record { number = number T; items = placed_of fs rs; files = b.files }

  abbrev lives : ℕ → ℕ
  lives = lives_of before S.parts.tree

  was : AreRows (sizes_in a.files) lives old.rows
  was = subst (AreRows (sizes_in a.files) lives) (sym rows) (counted_rows before S.parts stands.counted)

  counted_now : ((n : ℕ) → live_in S.parts.tree n (items_of after n) ≡ lives n) → AreRows (sizes_in b.files) lives T.parts.stats.rows → AreCounted after T.parts
  counted_now same now =
      counted_by T b fs rs log named
      (same_rows (sizes_in b.files) (sizes_in b.files) lives (lives_of after T.parts.tree) T.parts.stats.rows (λ n. refl) (λ n. ap (λ (i : Index). live_in i n (items_of after n)) tree ∙ same n) now)

  same_bytes : (n : ℕ) → file_in b.files (log_name n) ≡ file_in a.files (log_name n) → bytes_in b.files (log_name n) ≡ bytes_in a.files (log_name n)
  same_bytes n same = ap (λ (found : Option (List ℕ)). unwrap_or found []) same

  -- a file that isn't the current one, before or since
  other_lives : (n : ℕ) → (n ≡ number S → ⊥) → (n ≡ number T → ⊥) → file_in b.files (log_name n) ≡ file_in a.files (log_name n) → live_in S.parts.tree n (items_of after n) ≡ lives n
  other_lives n other apart same =
      ap (λ (l : List (ℕ × Item)). live_in S.parts.tree n l) (items_other after n apart ∙ ap counted_items (same_bytes n same) ∙ sym (items_other before n other))

  -- something was written to the current file, which may be new
  pub counted_on : number T ≡ number S → SameBut (log_name (number S)) a.files b.files
      → (is_some (writer S) ≡ true → is_some (writer T) ≡ true)
      → (is_some (writer S) ≡ false → is_some (writer T) ≡ true → 1 ≤ old.spare)
      → length (written frames records) ≤ length (written fs rs)
      → live_in S.parts.tree (number S) (placed_of fs rs) ≡ live_in S.parts.tree (number S) (placed_of frames records)
      → AreCounted after T.parts
  counted_on file same there room grows live =
      counted_now same_lives
      (rows_on (number S) a b frames fs records rs lives old T.parts.stats was others (writer S) (writer T) (waiting S) (waiting T) stands.named stands.log.1.current stands.log.1.beyond
      (subst (λ n. IsNamed 0 (writer T) n) file named)
      (subst (λ n. IsFileOf 0 (writer T) n b fs rs) file log.1.current)
      (subst (λ n. (k : ℕ) → next_file (writer T) n ≤ k → file_in b.files (log_name k) ≡ None) file log.1.beyond)
      there (λ none some. (none_live none, room none some)) grows
      (subst (λ n. CountsWritten (tail_of (files_of S.parts.log)) (tail_by (writer T) n (waiting T)) old T.parts.stats) file counts))
    where
      others : (k : ℕ) → (k ≡ number S → ⊥) → file_in b.files (log_name k) ≡ file_in a.files (log_name k)
      others k other = same (log_name k) (other_name (number S) k other)

      none_live : is_some (writer S) ≡ false → lives (number S) ≡ 0
      none_live none = ap (λ (l : List (ℕ × Item)). live_in S.parts.tree (number S) l) (items_here before (number S) refl ∙ no_items (writer S) (number S) a frames records none stands.log.1.current)

      same_lives : (n : ℕ) → live_in S.parts.tree n (items_of after n) ≡ lives n
      same_lives n = ⊎_elim
          (λ here.
          ap (λ (l : List (ℕ × Item)). live_in S.parts.tree n l) (items_here after n (here ∙ sym file))
          ∙ ap (λ k. live_in S.parts.tree k (placed_of fs rs)) here ∙ live ∙ ap (λ k. live_in S.parts.tree k (placed_of frames records)) (sym here)
          ∙ ap (λ (l : List (ℕ × Item)). live_in S.parts.tree n l) (sym (items_here before n here)))
          (λ other. other_lives n other (λ is. other (is ∙ file)) (others n other))
          (cases_eq n (number S))

  -- the current file was closed
  module _ (moment : ℕ)
      (file : number T ≡ number S + 1)
      (same : SameBeside (main_files S) true a.files b.files)
      (reads : file_in b.files (log_name (number S)) ≡ Some (written (closed_frames (waiting S) frames records moment) []))
      (closed : IsClosedIn 0 b (record { number = number S; frames = closed_frames (waiting S) frames records moment }))
      (usable : IsUsableLog (files_of S.parts.log)) where
    abbrev more : List Frame
    more = closed_frames (waiting S) frames records moment

    others_same : (k : ℕ) → (k ≡ number S → ⊥) → (k ≡ number T → ⊥) → file_in b.files (log_name k) ≡ file_in a.files (log_name k)
    others_same k one other = same (log_name k) (other_name (number S) k one) (λ over. other_name (number S + 1) k (λ is. other (is ∙ sym file)))

    none_before : file_in a.files (log_name (number T)) ≡ None
    none_before = stands.log.1.beyond (number T) (omega (arith, file, next_most (writer S) (number S)))

    rows_now : (L : Option Appender) (u : Bool) (store : ℕ) → is_some L ≡ true → IsLogOf store L (number S) u → u ≡ waits records → IsNamed 0 L (number S) → IsFileOf 0 L (number S) a frames records
        → ((k : ℕ) → next_file L (number S) ≤ k → file_in a.files (log_name k) ≡ None)
        → file_in b.files (log_name (number S)) ≡ Some (written (closed_frames u frames records moment) [])
        → (is_some (writer T) ≡ true → (lives (number T) ≡ 0) × (1 ≤ old.spare))
        → CountsWritten (tail_by L (number S) u) (tail_by (writer T) (number T) (waiting T)) old T.parts.stats
        → AreRows (sizes_in b.files) lives T.parts.stats.rows
    rows_now None u store some ready waits_is named' is beyond reads' made counts' = cc
    rows_now (Some l) u store some ready waits_is named' is beyond reads' made counts' =
        let short = short_log l store (number S) u ready in
        rows_closed (number S) (number T) a b frames fs records rs lives old T.parts.stats file was others_same l (writer T) u (waiting T) named' is beyond named log.1.current log.1.beyond made
        (closed_more (number S) l.size u short)
        (read_size b.files (number S) (written (closed_frames u frames records moment) []) reads' ∙ ap (λ k. Some k) (closed_length (number S) l.size u frames records moment waits_is is.size short))
        counts'

    -- what was closed has the same live bytes, and the next file has none
    lives_closed : live_in S.parts.tree (number T) (placed_of fs rs) ≡ 0 → (n : ℕ) → live_in S.parts.tree n (items_of after n) ≡ lives n
    lives_closed none n = ⊎_elim
        (λ here.
        ap (λ (l : List (ℕ × Item)). live_in S.parts.tree n l)
        (items_other after n (λ is. omega (arith, is, here, file)) ∙ ap (λ (found : Option (List ℕ)). counted_items (unwrap_or found [])) (ap (λ k. file_in b.files (log_name k)) here ∙ reads)
        ∙ items-counted more (written more []) (subst (λ (l : List ℕ). CountsFrames more l) (sym (written-none more)) (counts-file more closed.in_grammar))
        ∙ sym (append-nil (placed_frames 2 more)))
        ∙ closed_live S.parts.tree n (waiting S) frames records moment stands.log.1.pending
        ∙ ap (λ (l : List (ℕ × Item)). live_in S.parts.tree n l) (sym (items_here before n here)))
        (λ other. ⊎_elim
        (λ there.
        ap (λ (l : List (ℕ × Item)). live_in S.parts.tree n l) (items_here after n there) ∙ ap (λ k. live_in S.parts.tree k (placed_of fs rs)) there ∙ none
        ∙ ap (λ (l : List (ℕ × Item)). live_in S.parts.tree n l)
        (sym (items_other before n other ∙ ap (λ (found : Option (List ℕ)). counted_items (unwrap_or found [])) (ap (λ k. file_in a.files (log_name k)) there ∙ none_before))))
        (λ apart. other_lives n other apart (others_same n other apart))
        (cases_eq n (number T)))
        (cases_eq n (number S))

    pub counted_closed : is_some (writer S) ≡ true → (is_some (writer T) ≡ true → 1 ≤ old.spare) → live_in S.parts.tree (number T) (placed_of fs rs) ≡ 0 → AreCounted after T.parts
    counted_closed some room none =
        let same_lives = lives_closed none in
        counted_now same_lives
        (rows_now (writer S) (waiting S) (files_of S.parts.log).store some usable.log stands.log.1.pending stands.named stands.log.1.current stands.log.1.beyond reads
        (λ there. (sym (same_lives (number T)) ∙ ap (λ (l : List (ℕ × Item)). live_in S.parts.tree (number T) l) (items_here after (number T) refl) ∙ none, room there))
        counts)
