-- What each call of the host leaves of one file, in every image.
use Rattle.std.proofs.Common.{◌≡◌, ◌⊎◌, ⊎_elim, inl, ℕ, ◌<◌, ◌≤◌, List, [], ◌∷◌, length, Option, Some, None, IsSome, Result, refl, sym, ◌∙◌, subst, arith}
use Rattle.cache_model.specs.declared.files.FileName.{FileName}
use Rattle.cache_model.specs.Files.{Image, file_in}
use Rattle.cache_model.specs.DataFiles.{CountsFrames}
use Rattle.cache_disk.specs.declared.host.HostFault.{HostFault}
use Rattle.cache_disk.specs.State.{HostState, SameFiles, Moves}
use Rattle.cache_disk.specs.Calls.{OnFile, AllLeft, HasFile, Torn, IsTornFrom, Tears, Makes, Settles, Created, Wrote, Synced, SyncedNames}
use Rattle.cache_disk.proofs.Runs.{OnFile-files, HasFile-bytes, HasFile-files, HasFile-there, goes_on_file, first_on_file, weaker_on_file, left_after, left_still, left_on_file, started}
use Rattle.data_file.specs.Appending.{StartsWith, IsFresh}
use Rattle.data_file.proofs.Bytes.{torn-starts, counts-short}

abbrev pub Answer : Type 0
Answer = Result (Unit {0}) HostFault

-- where the image has the file, it has the property
abbrev pub Only : FileName → (List ℕ → Type 0) → Image → Type 0
Only name P image = (bytes : List ℕ) → file_in image name ≡ Some bytes → P bytes

module _ (name : FileName) (P : List ℕ → Type 0) where
  -- a write that keeps the property of the file
  pub tears_on_file : (at n : ℕ) (e m : Image) → Tears name at n e m → ((old new : List ℕ) → file_in e name ≡ Some old → Torn at n old new → P new) → OnFile name P e m
  tears_on_file at n e m tears keeps = record { others = tears.others; stays = stays (file_in e name) refl tears.torn; file = file (file_in e name) refl tears.torn }
    where
      stays : (found : Option (List ℕ)) → file_in e name ≡ found → IsTornFrom at n found (file_in m name) → IsSome (file_in e name) → IsSome (file_in m name)
      stays None is torn there = cc
      stays (Some old) is torn there = subst (λ (f : Option (List ℕ)). IsSome f) (sym torn.1) refl

      file : (found : Option (List ℕ)) → file_in e name ≡ found → IsTornFrom at n found (file_in m name) → Only name P m
      file None is torn bytes there = cc
      file (Some old) is torn bytes there =
          let same : torn.0 ≡ bytes = cc in
          keeps old bytes is (subst (λ b. Torn at n old b) same torn.2)

  -- the file isn't there at first
  pub left_made : (a b : HostState) → Moves a b (OnFile name P) → AllLeft a (λ m. file_in m name ≡ None) → AllLeft b (Only name P)
  left_made a b ab absent = left_still a b (OnFile name P) (Only name P) ab (λ m left bytes is. let none : file_in m name ≡ None = absent m left in cc) (λ d m was step. step.file)

  pub left_only : (a : HostState) → AllLeft a (HasFile name P) → AllLeft a (Only name P)
  left_only a all m left bytes is = HasFile-bytes name P m bytes (all m left) is

  -- a run goes on by a sync
  pub sync_goes_on : (a b c : HostState) (answer : Answer) → Moves a b (OnFile name P) → AllLeft b (Only name P) → Synced name b c answer → Moves a c (OnFile name P)
  sync_goes_on a b c answer ab all synced = goes_on_file a b c name P _ ab synced.turn.images (λ e m left step. OnFile-files name P e m (all e left) step)

  pub names_goes_on : (a b c : HostState) (answer : Answer) → Moves a b (OnFile name P) → AllLeft b (Only name P) → SyncedNames b c answer → Moves a c (OnFile name P)
  names_goes_on a b c answer ab all synced = goes_on_file a b c name P _ ab synced.turn.images (λ e m left step. OnFile-files name P e m (all e left) step)

  -- a run goes on by a write
  pub write_goes_on : (a b c : HostState) (at : ℕ) (bytes : List ℕ) (answer : Answer) → Moves a b (OnFile name P) → Wrote name at bytes b c answer
      → ((e : Image) (old new : List ℕ) → b.left b.turn e → file_in e name ≡ Some old → Torn at (length bytes) old new → P new) → Moves a c (OnFile name P)
  write_goes_on a b c at bytes answer ab wrote keeps =
      goes_on_file a b c name P _ ab wrote.turn.images (λ e m left step. tears_on_file at (length bytes) e m step (λ old new is torn. keeps e old new left is torn))

  -- after a sync every image has the file as it reads
  pub settled_now : (a b : HostState) → a.turn < b.turn → Moves a b (Settles a.files name) → SameFiles a.files b.files → AllLeft a (HasFile name P) → AllLeft b (λ m. file_in m name ≡ file_in b.files name)
  settled_now a b goes moves same all = left_after a b (Settles a.files name) (HasFile name P) (λ m. file_in m name ≡ file_in b.files name) goes moves all settle
    where
      settle : (d m : Image) → HasFile name P d → Settles a.files name d m → file_in m name ≡ file_in b.files name
      settle d m has step =
          ⊎_elim
          (λ none. let there : IsSome (file_in m name) = HasFile-there name P m (HasFile-files name P d m has step.stays) in cc)
          (λ is. is ∙ sym (same name))
          step.settled

-- every image has just these bytes
pub left_bytes : (a : HostState) (name : FileName) (bytes : List ℕ) → AllLeft a (λ m. file_in m name ≡ Some bytes) → (P : List ℕ → Type 0) → P bytes → AllLeft a (HasFile name P)
left_bytes a name bytes all P has m left = record { bytes = bytes; there = all m left; file = has }

-- the making of a file

abbrev IsShort : List ℕ → Type 0
IsShort bytes = length bytes ≤ 1

module _ (name : FileName) (a : HostState) (absent : AllLeft a (λ m. file_in m name ≡ None)) where
  pub made_created : (b : HostState) (answer : Answer) → Created name a b answer → Moves a b (OnFile name (CountsFrames []))
  made_created b answer created = first_on_file a b name (CountsFrames []) _ created.turn.images keeps
    where
      keeps : (d m : Image) → a.left a.turn d → Makes name d m → OnFile name (CountsFrames []) d m
      keeps d m left step = record {
        others = step.others;
        stays = λ there. let none : file_in d name ≡ None = absent d left in cc;
        file = λ bytes is. ⊎_elim (λ none. cc) (λ empty. let nil : bytes ≡ [] = cc in counts-short bytes (subst IsShort (sym nil) (omega arith))) step.made;
      }

  -- it is fresh then
  pub made_fresh : (b : HostState) (answer : Answer) → Created name a b answer → file_in b.files name ≡ Some [] → IsFresh name b
  made_fresh b answer created reads = record {
    reads = reads;
    images = left_still a b (Makes name) (λ m. (file_in m name ≡ None) ⊎ (file_in m name ≡ Some [])) created.turn.images (λ m left. inl (absent m left)) (λ d m was step. step.made);
  }

  pub made_begun : (b c : HostState) → Moves a b (OnFile name (CountsFrames [])) → Moves b c (OnFile name (CountsFrames [])) → Moves a c (OnFile name (CountsFrames []))
  made_begun b c ab bc = goes_on_file a b c name (CountsFrames []) (OnFile name (CountsFrames [])) ab bc (λ e m left step. step)

module _ (name : FileName) (a : HostState) (fresh : IsFresh name a) where
  short_at_first : AllLeft a (Only name IsShort)
  short_at_first m left bytes is = ⊎_elim (λ none. cc) (λ empty. let nil : bytes ≡ [] = cc in subst IsShort (sym nil) (omega arith)) (fresh.images m left)

  short_now : (b : HostState) → Moves a b (OnFile name IsShort) → AllLeft b (Only name IsShort)
  short_now b ab = left_still a b (OnFile name IsShort) (Only name IsShort) ab short_at_first (λ d m was step. step.file)

  pub begun_wrote : (c : HostState) (answer : Answer) → Wrote name 0 (0 ∷ []) a c answer → Moves a c (OnFile name IsShort)
  begun_wrote c answer wrote =
      write_goes_on name IsShort a a c 0 (0 ∷ []) answer (started a (OnFile name IsShort)) wrote (λ e old new left is torn. let short : length old ≤ 1 = short_at_first e left old is in omega (arith, torn.no_longer))

  pub begun_synced : (b c : HostState) (answer : Answer) → Moves a b (OnFile name IsShort) → Synced name b c answer → Moves a c (OnFile name IsShort)
  begun_synced b c answer ab synced = sync_goes_on name IsShort a b c answer ab (short_now b ab) synced

  pub begun_names : (b c : HostState) (answer : Answer) → Moves a b (OnFile name IsShort) → SyncedNames b c answer → Moves a c (OnFile name IsShort)
  begun_names b c answer ab synced = names_goes_on name IsShort a b c answer ab (short_now b ab) synced

  pub begun_counts : (b : HostState) → Moves a b (OnFile name IsShort) → Moves a b (OnFile name (CountsFrames []))
  begun_counts b ab = weaker_on_file a b name IsShort (CountsFrames []) ab counts-short

-- writes behind what every image has

module _ (name : FileName) (front : List ℕ) (a : HostState) (all : AllLeft a (HasFile name (StartsWith front))) where
  pub behind_goes_on : (b c : HostState) (at : ℕ) (bytes : List ℕ) (answer : Answer) → length front ≤ at → Moves a b (OnFile name (StartsWith front)) → Wrote name at bytes b c answer → Moves a c (OnFile name (StartsWith front))
  behind_goes_on b c at bytes answer le ab wrote =
      write_goes_on name (StartsWith front) a b c at bytes answer ab wrote
      (λ e old new left is torn. torn-starts front old new at (length bytes) le torn (left_only name (StartsWith front) b (left_on_file a b name (StartsWith front) ab all) e left old is))

  pub behind_synced : (b c : HostState) (answer : Answer) → Moves a b (OnFile name (StartsWith front)) → Synced name b c answer → Moves a c (OnFile name (StartsWith front))
  behind_synced b c answer ab synced =
      sync_goes_on name (StartsWith front) a b c answer ab (left_only name (StartsWith front) b (left_on_file a b name (StartsWith front) ab all)) synced
