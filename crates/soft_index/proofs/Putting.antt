-- What a change is to the store, where the current file is closed before its record and where it isn't.
use Rattle.std.proofs.Common.{◌≡◌, ◌⊎◌, ⊎_elim, inl, inr, ℕ, ◌+◌, ◌≤◌, ◌<◌, ◌==◌, true, false, Bool, List, [], ◌∷◌, ◌++◌, Option, Some, None, Contains, IsSome, is_some, refl, sym, ◌∙◌, ap, subst, arith}
use Rattle.std.specs.Prelude.{Ok, if◌then◌else◌, ◌&&◌}
use Rattle.cache_model.specs.declared.entries.Change.{Change}
use Rattle.cache_model.specs.declared.files.Place.{Place}
use Rattle.cache_model.specs.Files.{Image, file_in}
use Rattle.cache_model.specs.Items.{Item, end}
use Rattle.cache_model.specs.DataFiles.{Frame, CountsFrames, IsUndamaged, placed_frames}
use Rattle.cache_model.specs.Images.{log_name, IsCounted, sequence_of}
use Rattle.cache_disk.specs.State.{HostState, Moves, SameBut}
use Rattle.data_file.specs.Appending.{next_place, written}
use Rattle.append_log.specs.declared.log_files.LogFiles.{LogFiles}
use Rattle.append_log.specs.Current.{IsUsable as IsUsableLog, files_of, store_of, is_over, makes_file, next_file, next_file_of, tail_by, tail_of}
use Rattle.append_log.specs.Current as append
use Rattle.data_file.specs.declared.appender.Appender.{Appender}
use Rattle.append_log.specs.Standing.{Closed, Held, IsClosedIn, put_held}
use Rattle.append_log.specs.Calls.{CountsIf, IsWrittenBy, OnFiles, PutsBy, SameBeside}
use Rattle.append_log.proofs.Holding.{next_most, waits-push}
use Rattle.append_log.proofs.Steps.{current_alone, same_alone}
use Rattle.store_trait.specs.Keeping.{Leaves, SameWhere}
use Rattle.file_stats.specs.Figures.{Figures}
use Rattle.soft_index.specs.declared.log_store.LogStore.{LogStore}
use Rattle.soft_index.specs.Counted.{AreCounted, CountsWritten}
use Rattle.soft_index.specs.Store.{Holds, IsPutIn, IsWritten, frames_after, records_after, LogStands, SameOthers, closed_frames, closes, content_of, item_by, is_spent, main_files, next_of, number, owns_file, spent_by, waiting, writer}
use Rattle.soft_index.specs.Laws.{cases_file}
use Rattle.soft_index.proofs.Counting.{Counts, counted-within, counted-there, items-counted, no-contained, undamaged-counted}
use Rattle.soft_index.proofs.Counted.{no_entry}
use Rattle.soft_index.proofs.Entering.{placed_fresh}
use Rattle.soft_index.proofs.Written.{counted_closed, counted_on, pushed_live, pushed_more}
use Rattle.soft_index.proofs.Images.{CountsBeside, IsAsBefore, IsNewImage, counts_before, counts_now, foreign_name, item_no_end, item_seq, other_name, same_beside, sealed_image, step_since}
use Rattle.data_file.proofs.Frame.{placed_of}
use Rattle.compactor.specs.Counting.{CountSame}
use Rattle.compactor.specs.Indexing.{AreIndexed}
use Rattle.soft_index.specs.Growing.{GrowsTo}
use Rattle.soft_index.proofs.Growing.{grows_closed, grows_here, held_here, pushed_within, zero_same}
use Rattle.soft_index.proofs.Standing.{beside_moves, rotated_file, rotated_kept, rotated_records, same_records, stands_appended, stands_behind}
use Rattle.soft_index.proofs.Turning.{closed_cases, closed_last, named_main, to_main}
use Rattle.cache_disk.proofs.Runs.{weaker}
use Rattle.cache_model.specs.declared.faults.Spent.{Spent}
use Rattle.cache_model.specs.declared.faults.Spent.TheVariants.{Files, Sequence}
use Rattle.std.proofs.lemmas.Bool.Decides.{nat_tests}

-- where the current file is closed, the next one counts nothing

module _ (S : LogStore) (a : HostState) (frames : List Frame) (records : List Item) (moment : ℕ) (stands : LogStands S a frames records)
    (d c : Image) (left : a.left a.turn d)
    (step : OnFiles (main_files S) true (CountsIf true frames (closed_frames (waiting S) frames records moment)) d c) where
  other_file : (n : ℕ) → (n ≡ number S → ⊥) → (n ≡ number S + 1 → ⊥) → file_in c (log_name n) ≡ file_in a.files (log_name n)
  other_file n one next = step.others (log_name n) (other_name (number S) n one) (λ over. other_name (number S + 1) n next) ∙ stands.others d left n one

  counts_none : (n at : ℕ) (item : Item) → n ≡ number S + 1 → IsCounted c n at item → ⊥
  counts_none n at item is counted =
      let counts = step.behind refl counted.bytes (subst (λ (k : ℕ). file_in c (log_name k) ≡ Some counted.bytes) is counted.there) in
      let none = subst (λ (l : List (ℕ × Item)). Contains l (at, item)) (items-counted [] counted.bytes counts) counted.counted in
      omega (arith, none.1)

  beside : CountsBeside (number S) a.files c
  beside = record {
    kept = λ n at item one counted.
        let apart : n ≡ number S + 1 → ⊥ = (λ is. let no : None ≡ Some counted.bytes = sym (stands.log.1.beyond n (omega (arith, is, next_most (writer S) (number S)))) ∙ counted.there in cc) in
        record { bytes = counted.bytes; there = other_file n one apart ∙ counted.there; counted = counted.counted };
    only = λ n at item one counted.
        let apart : n ≡ number S + 1 → ⊥ = (λ is. counts_none n at item is counted) in
        record { bytes = counted.bytes; there = sym (other_file n one apart) ∙ counted.there; counted = counted.counted };
    sound = λ n bytes one sound is. ⊎_elim
        (λ next. undamaged-counted [] bytes (step.behind refl bytes (subst (λ (k : ℕ). file_in c (log_name k) ≡ Some bytes) next is)))
        (λ apart. sound n bytes one (sym (other_file n one apart) ∙ is))
        (cases_file n (number S + 1));
  }

  before : CountsBeside (number S) a.files d
  before = same_beside (number S) a.files d (λ n one. stands.others d left n one)

  counts : Counts (log_name (number S)) frames d
  counts = counts_now (writer S) (number S) a frames records stands.named stands.log.1.current d left

  -- the current file counts its frames still
  as_before : Counts (log_name (number S)) frames c → IsAsBefore a c
  as_before now = counts_before a d c left (record { sound = λ sound. sound_now; kept = kept; only = only })
    where
      forth : (k : Counts (log_name (number S)) frames c) (at : ℕ) (item : Item) → Contains (placed_frames 2 frames) (at, item) → IsCounted c (number S) at item
      forth (inl none) at item within = absurd (no-contained at item frames none.0 within)
      forth (inr has) at item within = counted-there (number S) at item frames c has within

      back : (k : Counts (log_name (number S)) frames d) (at : ℕ) (item : Item) → Contains (placed_frames 2 frames) (at, item) → IsCounted d (number S) at item
      back (inl none) at item within = absurd (no-contained at item frames none.0 within)
      back (inr has) at item within = counted-there (number S) at item frames d has within

      kept : (n at : ℕ) (item : Item) → IsCounted d n at item → IsCounted c n at item
      kept n at item counted = ⊎_elim
          (λ is. subst (λ (k : ℕ). IsCounted c k at item) (sym is) (forth now at item (counted-within (number S) at item frames d counts (subst (λ (k : ℕ). IsCounted d k at item) is counted))))
          (λ one. beside.kept n at item one (before.only n at item one counted))
          (cases_file n (number S))

      only : (n at : ℕ) (item : Item) → IsCounted c n at item → IsCounted d n at item
      only n at item counted = ⊎_elim
          (λ is. subst (λ (k : ℕ). IsCounted d k at item) (sym is) (back counts at item (counted-within (number S) at item frames c now (subst (λ (k : ℕ). IsCounted c k at item) is counted))))
          (λ one. before.kept n at item one (beside.only n at item one counted))
          (cases_file n (number S))

      sound_here : (k : Counts (log_name (number S)) frames c) (bytes : List ℕ) → file_in c (log_name (number S)) ≡ Some bytes → IsUndamaged bytes
      sound_here (inl none) bytes is = let no : None ≡ Some bytes = sym none.1 ∙ is in cc
      sound_here (inr has) bytes is =
          let both : Some has.bytes ≡ Some bytes = sym has.there ∙ is in
          let one : has.bytes ≡ bytes = cc in
          subst (λ (l : List ℕ). IsUndamaged l) one (undamaged-counted frames has.bytes has.file)

      sound_now : (n : ℕ) (bytes : List ℕ) → file_in c (log_name n) ≡ Some bytes → IsUndamaged bytes
      sound_now n bytes is = ⊎_elim
          (λ here. sound_here now bytes (subst (λ (k : ℕ). file_in c (log_name k) ≡ Some bytes) here is))
          (λ one. beside.sound n bytes one (λ k other beside there. stands.sound k other beside there) is)
          (cases_file n (number S))

  gone : (k : Counts (log_name (number S)) frames d) → file_in c (log_name (number S)) ≡ None → Counts (log_name (number S)) frames c
  gone (inl none) is = inl (none.0, is)
  gone (inr has) is =
      let some = step.stays (subst (λ (found : Option (List ℕ)). IsSome found) (sym has.there) refl) in
      let no : false ≡ true = subst (λ (found : Option (List ℕ)). IsSome found) is some in
      cc

  pub since_closed : IsAsBefore a c ⊎ IsNewImage (content_of S a.files) moment c
  since_closed = from (file_in c (log_name (number S))) refl
    where
      from : (found : Option (List ℕ)) → file_in c (log_name (number S)) ≡ found → IsAsBefore a c ⊎ IsNewImage (content_of S a.files) moment c
      from None is = inl (as_before (gone counts is))
      from (Some bytes) is = ⊎_elim
          (λ old. inl (as_before (inr (record { bytes = bytes; there = is; file = old }))))
          (λ new. inr (sealed_image (number S) frames records moment a.files c beside (record { bytes = bytes; there = is; file = new }) (content_of S a.files) stands.content stands.sound))
          (closed_cases (waiting S) frames records moment bytes (step.file bytes is))

-- each image of a change counts what one did before, or reads as the content before it
pub since_put : (over : Bool) (S : LogStore) (a : HostState) (frames : List Frame) (records : List Item) (moment : ℕ) → LogStands S a frames records
    → (d c : Image) → a.left a.turn d → OnFiles (main_files S) over (CountsIf over frames (closed_frames (waiting S) frames records moment)) d c → IsAsBefore a c ⊎ IsNewImage (content_of S a.files) moment c
since_put true S a frames records moment stands d c left step = since_closed S a frames records moment stands d c left step
since_put false S a frames records moment stands d c left step =
    step_since S a frames records moment (content_of S a.files) (CountsFrames frames) (λ bytes. ⊥) stands (λ bytes counts. inl counts) (λ image bytes same there none. absurd none) d c left
    (record { others = λ name apart. step.others name apart (λ over. let no : false ≡ true = over in cc); stays = step.stays; file = step.file })

-- files of others are left alone
pub put_leaves : (over : Bool) (S : LogStore) (a b : HostState) (P : List ℕ → Type 0) → SameBeside (main_files S) over a.files b.files → Moves a b (OnFiles (main_files S) over P) → Leaves owns_file false a b
put_leaves over S a b P same moves = record {
  files = λ q other. same q (foreign_name (number S) q other) (λ is. foreign_name (number S + 1) q other);
  images = weaker a b (OnFiles (main_files S) over P) (SameWhere owns_file false) moves (λ d m left step q other. step.others q (foreign_name (number S) q other) (λ is. foreign_name (number S + 1) q other));
}

-- the number of the file that a record goes to

over_some : (log : Option Appender) (file_size size : ℕ) → is_over log file_size size ≡ true → is_some log ≡ true
over_some None file_size size is = cc
over_some (Some log) file_size size is = refl

number_next : (log : Option Appender) (file : ℕ) (over : Bool) → (over ≡ true → is_some log ≡ true) → (if makes_file log over then next_file log file + 1 else next_file log file) ≡ (if over then file + 1 else file) + 1
number_next None file true there = let no : false ≡ true = there refl in cc
number_next None file false there = refl
number_next (Some log) file true there = refl
number_next (Some log) file false there = refl

number_tail : (log : Option Appender) (file : ℕ) (unsealed : Bool) (tail : ℕ × ℕ × Bool) → tail_by log file unsealed ≡ Some tail → (file ≡ tail.0) × (next_file log file ≡ file + 1)
number_tail None file unsealed tail is = cc
number_tail (Some log) file unsealed tail is = let same : (file, log.size, unsealed) ≡ tail = cc in (ap (λ (t : ℕ × ℕ × Bool). t.0) same, refl)

pub number_after : (S T : LogStore) (over : Bool) (next size moment : ℕ) (place : Place) → is_over (writer S) (files_of S.parts.log).file_size size ≡ over
    → IsWrittenBy next over size moment (files_of S.parts.log) (files_of T.parts.log) place → number T ≡ (if over then number S + 1 else number S)
number_after S T over next size moment place is put =
    let tail = number_tail (writer T) (number T) (waiting T) (place.file, place.at + place.length, true) put.tail in
    let after = number_next (writer S) (number S) over (λ closes_it. over_some (writer S) (files_of S.parts.log).file_size size (is ∙ closes_it)) in
    omega (arith, tail.1, put.next_file, after)

-- what the store holds after a record was written
pub record_in : (over : Bool) (one : Item) (moment : ℕ) (S T : LogStore) (a b : HostState) (frames : List Frame) (records : List Item) (place : Place)
    → (stands : LogStands S a frames records)
    → sequence_of one < next_of T → ((m : ℕ) → end m ≡ one → ⊥)
    → S.latest ≤ moment → T.latest ≡ moment
    → IsUsableLog (files_of T.parts.log) → store_of (files_of T.parts.log) ≡ 0
    → next_of S ≤ next_of T
    → number T ≡ (if over then number S + 1 else number S)
    → PutsBy over one moment (record { closed = stands.log.0; frames = frames; records = records }) (main_files S) (files_of T.parts.log) a b (Ok place)
    → AreIndexed (Holds (number T) (placed_of (if over then [] else frames) ((if over then [] else records) ++ one ∷ [])) b.files) T.parts
    → AreCounted (record { number = number T; items = placed_of (if over then [] else frames) ((if over then [] else records) ++ one ∷ []); files = b.files }) T.parts
    → LogStands T b (if over then [] else frames) ((if over then [] else records) ++ one ∷ [])
record_in true one moment S T a b frames records place stands below no_end late latest usable main next file puts indexed counted =
    let held : Held = record { closed = stands.log.0; frames = frames; records = records } in
    let more = closed_frames (waiting S) frames records moment in
    let closed : Closed = record { number = number S; frames = more } in
    let last = subst (λ (s : ℕ). IsClosedIn s b closed) main (closed_last (store_of (files_of T.parts.log)) b stands.log.0 closed puts.stands.closed) in
    stands_behind S T a b frames records moment stands file (beside_moves (main_files S) a b true (CountsIf true frames more) puts.images) puts.files (puts.closed refl) last one below no_end main
    (stands.log.0 ++ closed ∷ [], to_main (files_of T.parts.log) b (put_held true (waiting S) (number S) moment held one) main puts.stands)
    (named_main (files_of T.parts.log) main usable) indexed counted next late latest
record_in false one moment S T a b frames records place stands below no_end late latest usable main next file puts indexed counted =
    let held : Held = record { closed = stands.log.0; frames = frames; records = records } in
    let more = closed_frames (waiting S) frames records moment in
    stands_appended S T a b frames records (CountsFrames frames) stands file (current_alone (main_files S) a b frames more puts.images) (same_alone (main_files S) a.files b.files puts.files) one below no_end main
    (stands.log.0, to_main (files_of T.parts.log) b (put_held false (waiting S) (number S) moment held one) main puts.stands)
    (named_main (files_of T.parts.log) main usable) indexed counted next (omega (arith, late, latest))

-- and what it holds after a change
pub put_in : (over : Bool) (change : Change) (moment : ℕ) (S T : LogStore) (a b : HostState) (frames : List Frame) (records : List Item) (place : Place)
    → (stands : LogStands S a frames records)
    → closes S change ≡ over
    → S.latest ≤ moment → T.latest ≡ moment
    → IsUsableLog (files_of T.parts.log) → store_of (files_of T.parts.log) ≡ 0
    → next_of T ≡ next_of S + 1
    → number T ≡ (if over then number S + 1 else number S)
    → PutsBy over (item_by (next_of S) change) moment (record { closed = stands.log.0; frames = frames; records = records }) (main_files S) (files_of T.parts.log) a b (Ok place)
    → AreIndexed (Holds (number T) (placed_of (if over then [] else frames) ((if over then [] else records) ++ item_by (next_of S) change ∷ [])) b.files) T.parts
    → AreCounted (record { number = number T; items = placed_of (if over then [] else frames) ((if over then [] else records) ++ item_by (next_of S) change ∷ []); files = b.files }) T.parts
    → IsPutIn change moment frames records S T b
put_in over change moment S T a b frames records place stands is late latest usable main next file puts indexed counted =
    let one : Item = item_by (next_of S) change in
    record {
      holds = subst (λ (o : Bool). LogStands T b (if o then [] else frames) ((if o then [] else records) ++ one ∷ [])) (sym is)
          (record_in over one moment S T a b frames records place stands (omega (arith, item_seq (next_of S) change, next)) (λ m. item_no_end (next_of S) m change) late latest usable main (omega (arith, next)) file puts indexed counted);
      closed = λ closes_it. closed_by over (sym is ∙ closes_it) puts.closed;
    }
  where
    closed_by : {P : Type 0} (o : Bool) → o ≡ true → (o ≡ true → P) → P
    closed_by o is there = there is

-- the records that counted before it count still
pub put_records : (over : Bool) (moment : ℕ) (one : Item) (S T : LogStore) (a b : HostState) (frames : List Frame) (records : List Item) (place : Place)
    → (stands : LogStands S a frames records)
    → store_of (files_of T.parts.log) ≡ 0
    → number T ≡ (if over then number S + 1 else number S)
    → PutsBy over one moment (record { closed = stands.log.0; frames = frames; records = records }) (main_files S) (files_of T.parts.log) a b (Ok place)
    → CountSame (Holds (number S) (placed_of frames records) a.files) (Holds (number T) (placed_of (if over then [] else frames) (if over then [] else records)) b.files)
put_records true moment one S T a b frames records place stands main file puts =
    let more = closed_frames (waiting S) frames records moment in
    let closed : Closed = record { number = number S; frames = more } in
    let last = subst (λ (s : ℕ). IsClosedIn s b closed) main (closed_last (store_of (files_of T.parts.log)) b stands.log.0 closed puts.stands.closed) in
    rotated_records S T a b frames records moment stands file (beside_moves (main_files S) a b true (CountsIf true frames more) puts.images) puts.files (puts.closed refl) last
put_records false moment one S T a b frames records place stands main file puts =
    let more = closed_frames (waiting S) frames records moment in
    same_records S T a b frames records (CountsFrames frames) stands file (current_alone (main_files S) a b frames more puts.images) (same_alone (main_files S) a.files b.files puts.files)

-- and what was held goes on
pub record_grows : (over : Bool) (moment : ℕ) (one : Item) (S T : LogStore) (a b : HostState) (frames : List Frame) (records : List Item) (place : Place)
    → (stands : LogStands S a frames records)
    → 1 ≤ number S
    → store_of (files_of T.parts.log) ≡ 0
    → number T ≡ (if over then number S + 1 else number S)
    → PutsBy over one moment (record { closed = stands.log.0; frames = frames; records = records }) (main_files S) (files_of T.parts.log) a b (Ok place)
    → GrowsTo S T a.files b.files frames (if over then [] else frames) records ((if over then [] else records) ++ one ∷ [])
record_grows true moment one S T a b frames records place stands some main file puts =
    let more = closed_frames (waiting S) frames records moment in
    let closed : Closed = record { number = number S; frames = more } in
    let last = subst (λ (s : ℕ). IsClosedIn s b closed) main (closed_last (store_of (files_of T.parts.log)) b stands.log.0 closed puts.stands.closed) in
    let only = beside_moves (main_files S) a b true (CountsIf true frames more) puts.images in
    grows_closed S T a b frames records (one ∷ []) stands some file
    (rotated_file S T a b frames records moment stands file only puts.files (puts.closed refl) last)
    (rotated_kept S T a b frames records moment stands file only puts.files (puts.closed refl) last)
record_grows false moment one S T a b frames records place stands some main file puts =
    let same = same_alone (main_files S) a.files b.files puts.files in
    let others : SameOthers (number S) a.files b.files = (λ n other. same (log_name n) (other_name (number S) n other)) in
    grows_here S T a.files b.files file others frames frames records (records ++ one ∷ []) (zero_same S a.files b.files some others)
    (λ n at item key is of_key. held_here S T a.files b.files file others (placed_of frames records) (placed_of frames (records ++ one ∷ [])) (pushed_within frames records one) n at item is)
    (λ at item within. within)

-- the statistics go along with it

some_tail : (log : Option Appender) (file : ℕ) (unsealed : Bool) (tail : ℕ × ℕ × Bool) → tail_by log file unsealed ≡ Some tail → is_some log ≡ true
some_tail None file unsealed tail is = cc
some_tail (Some log) file unsealed tail is = refl

pub record_counted : (over : Bool) (one : Item) (size moment : ℕ) (S T : LogStore) (a b : HostState) (frames : List Frame) (records : List Item) (place : Place) (old : Figures)
    → (stands : LogStands S a frames records)
    → is_over (writer S) (files_of S.parts.log).file_size size ≡ over
    → IsUsableLog (files_of S.parts.log) → IsUsableLog (files_of T.parts.log) → store_of (files_of T.parts.log) ≡ 0
    → tail_of (files_of T.parts.log) ≡ Some (place.file, place.at + place.length, true)
    → number T ≡ (if over then number S + 1 else number S)
    → PutsBy over one moment (record { closed = stands.log.0; frames = frames; records = records }) (main_files S) (files_of T.parts.log) a b (Ok place)
    → old.rows ≡ S.parts.stats.rows → 1 ≤ old.spare → T.parts.tree ≡ S.parts.tree
    → CountsWritten (tail_of (files_of S.parts.log)) (tail_of (files_of T.parts.log)) old T.parts.stats
    → AreCounted (record { number = number T; items = placed_of (if over then [] else frames) ((if over then [] else records) ++ one ∷ []); files = b.files }) T.parts
record_counted true one size moment S T a b frames records place old stands is usable usable_now main tail file puts rows room tree counts =
    let held : Held = record { closed = stands.log.0; frames = frames; records = records } in
    let more = closed_frames (waiting S) frames records moment in
    let closed : Closed = record { number = number S; frames = more } in
    let last = subst (λ (s : ℕ). IsClosedIn s b closed) main (closed_last (store_of (files_of T.parts.log)) b stands.log.0 closed puts.stands.closed) in
    let none = no_entry (Holds (number S) (placed_of frames records) a.files) S.parts.tree (number T) (next_place [] []) stands.indexed.indexed
    (λ other key holds of_key. ⊎_elim
    (λ here. omega (arith, here.0, file))
    (λ beside. let no : None ≡ Some beside.1.bytes = sym (stands.log.1.beyond (number T) (omega (arith, file, next_most (writer S) (number S)))) ∙ beside.1.there in cc)
    holds) one in
    counted_closed S T a b frames [] records (one ∷ []) old stands
    (stands.log.0 ++ closed ∷ [], to_main (files_of T.parts.log) b (put_held true (waiting S) (number S) moment held one) main puts.stands)
    (named_main (files_of T.parts.log) main usable_now) rows tree counts moment file puts.files (puts.closed refl) last usable
    (over_some (writer S) (files_of S.parts.log).file_size size is) (λ some. room)
    (pushed_live S.parts.tree (number T) [] [] one none)
record_counted false one size moment S T a b frames records place old stands is usable usable_now main tail file puts rows room tree counts =
    let held : Held = record { closed = stands.log.0; frames = frames; records = records } in
    let none = no_entry (Holds (number S) (placed_of frames records) a.files) S.parts.tree (number S) (next_place frames records) stands.indexed.indexed
    (λ other key holds of_key. placed_fresh (number S) frames records a.files other holds) one in
    counted_on S T a b frames frames records (records ++ one ∷ []) old stands
    (stands.log.0, to_main (files_of T.parts.log) b (put_held false (waiting S) (number S) moment held one) main puts.stands)
    (named_main (files_of T.parts.log) main usable_now) rows tree counts file (same_alone (main_files S) a.files b.files puts.files)
    (λ some. some_tail (writer T) (number T) (waiting T) (place.file, place.at + place.length, true) tail) (λ none' some. room)
    (pushed_more frames records one) (pushed_live S.parts.tree (number S) frames records one none)

-- which number is spent

-- the number of a file that is at its end
pub file_end : (m : Bool) (n : ℕ) (s : Spent) → (if m && n == 4294967295 then Some (Files 4294967295) else None) ≡ Some s → (s ≡ Files 4294967295) × (n ≡ 4294967295)
file_end m n s is = by (m && n == 4294967295) refl is
  where
    ends : (m : Bool) → (m && n == 4294967295) ≡ true → n ≡ 4294967295
    ends true at = grind (arith, nat_tests)
    ends false at = cc

    by : (t : Bool) → (m && n == 4294967295) ≡ t → (if t then Some (Files 4294967295) else None) ≡ Some s → (s ≡ Files 4294967295) × (n ≡ 4294967295)
    by true at found = let one : Files 4294967295 ≡ s = cc in (sym one, ends m at)
    by false at found = cc

pub spent_number : (S T : LogStore) (change : Change) (s : Spent) → spent_by S change ≡ Some s → (next_of T ≡ next_of S) × (next_file_of (files_of T.parts.log) ≡ next_file_of (files_of S.parts.log)) → is_spent T s
spent_number S T change s is same = by_sequence (next_of S == 4611686018427387904) refl is
  where
    by_file : (b : Bool) → (makes_file (writer S) (closes S change) && next_file (writer S) (number S) == 4294967295) ≡ b → (if b then Some (Files 4294967295) else None) ≡ Some s → is_spent T s
    by_file true at_end found =
        let one : Files 4294967295 ≡ s = cc in
        inr (sym one, omega (arith, same.1, file_end (makes_file (writer S) (closes S change)) (next_file (writer S) (number S)) at_end))
      where
        file_end : (m : Bool) (n : ℕ) → (m && n == 4294967295) ≡ true → n ≡ 4294967295
        file_end true n at = grind (arith, nat_tests)
        file_end false n at = cc
    by_file false at_end found = cc

    by_sequence : (b : Bool) → (next_of S == 4611686018427387904) ≡ b → (if b then Some (Sequence (next_of S)) else (if makes_file (writer S) (closes S change) && next_file (writer S) (number S) == 4294967295 then Some (Files 4294967295) else None)) ≡ Some s → is_spent T s
    by_sequence true at_end found =
        let one : Sequence (next_of S) ≡ s = cc in
        let number_end : next_of S ≡ 4611686018427387904 = grind (arith, nat_tests) in
        inl (sym one ∙ ap (λ (n : ℕ). Sequence n) (sym same.0), omega (arith, same.0, number_end))
    by_sequence false at_end found = by_file (makes_file (writer S) (closes S change) && next_file (writer S) (number S) == 4294967295) refl found

-- where the record of a change waits, its file holds it behind its frames
pub waits_in : (change : Change) (moment : ℕ) (frames : List Frame) (records : List Item) (S T : LogStore) (b : HostState) → S.sync_writes ≡ false
    → number T ≡ (if closes S change then number S + 1 else number S)
    → IsPutIn change moment frames records S T b → IsWritten change moment frames records S T b
waits_in change moment frames records S T b sync file put = record {
  file = file;
  holds = subst
      (λ (s : Bool). LogStands T b (frames_after s (if closes S change then [] else frames) (if closes S change then [] else records) (item_by (next_of S) change) moment) (records_after s (if closes S change then [] else records) (item_by (next_of S) change)))
      (sym sync) put.holds;
  closed = put.closed;
}

-- and where it was sealed, it ends a frame
pub sealed_in : (change : Change) (moment : ℕ) (frames : List Frame) (records : List Item) (S M T : LogStore) (b d : HostState) → S.sync_writes ≡ true
    → number M ≡ (if closes S change then number S + 1 else number S) → number T ≡ number M
    → IsPutIn change moment frames records S M b
    → ((fs : List Frame) (rs : List Item) → LogStands M b fs rs → LogStands T d (closed_frames (waiting M) fs rs moment) [])
    → SameBut (log_name (number M)) b.files d.files
    → IsWritten change moment frames records S T d
sealed_in change moment frames records S M T b d sync file same put seals others =
    let fs : List Frame = if closes S change then [] else frames in
    let rs : List Item = if closes S change then [] else records in
    let one : Item = item_by (next_of S) change in
    let unsealed : waiting M ≡ true = put.holds.log.1.pending ∙ waits-push rs one in
    record {
      file = same ∙ file;
      holds = subst (λ (s : Bool). LogStands T d (frames_after s fs rs one moment) (records_after s rs one)) (sym sync)
          (subst (λ (u : Bool). LogStands T d (closed_frames u fs (rs ++ one ∷ []) moment) []) unsealed (seals fs (rs ++ one ∷ []) put.holds));
      closed = λ over.
          others (log_name (number S)) (other_name (number M) (number S) (λ is. omega (arith, is, file ∙ ap (λ (o : Bool). if o then number S + 1 else number S) over)))
          ∙ put.closed over;
    }

-- what the log's files and the settings say of a change is said of each store that has them
pub written_from : (change : Change) (moment : ℕ) (frames : List Frame) (records : List Item) (S M T : LogStore) (b : HostState) → files_of M.parts.log ≡ files_of S.parts.log → M.sync_writes ≡ S.sync_writes
    → IsWritten change moment frames records M T b → IsWritten change moment frames records S T b
written_from change moment frames records S M T b files sync written_so = record {
  file = subst (λ (f : LogFiles). number T ≡ (if append.closes f change then append.number_of f + 1 else append.number_of f)) files written_so.file;
  holds = subst (λ (s : Bool). LogStands T b (frames_after s (if closes S change then [] else frames) (if closes S change then [] else records) (item_by (next_of S) change) moment) (records_after s (if closes S change then [] else records) (item_by (next_of S) change))) sync
      (subst
      (λ (f : LogFiles).
      LogStands T b (frames_after M.sync_writes (if append.closes f change then [] else frames) (if append.closes f change then [] else records) (item_by (append.next_seq_of f) change) moment) (records_after M.sync_writes (if append.closes f change then [] else records) (item_by (append.next_seq_of f) change)))
      files written_so.holds);
  closed = subst (λ (f : LogFiles). append.closes f change ≡ true → file_in b.files (log_name (append.number_of f)) ≡ Some (written (closed_frames (append.is_unsealed f) frames records moment) [])) files written_so.closed;
}
