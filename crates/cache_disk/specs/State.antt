-- What a host stands for, and how it goes on from one moment to a later one.
use Rattle.std.specs.Prelude.{◌≡◌, ℕ, ◌+◌, ◌-◌, ◌^◌, ◌<◌, ◌≤◌, min, List, Option, false}
use Rattle.cache_model.specs.declared.files.FileName.{FileName}
use Rattle.cache_model.specs.Files.{Image, file_in, is_name}

-- What a host is at one moment. A turn is a number that rises with each call that may change something.
pub record HostState : Type 1 where
  -- the files as they read
  pub files : Image
  pub turn : ℕ
  -- whether a crash at that turn may leave this image
  pub left : ℕ → Image → Type 0
  -- the bytes said by that turn; from a say on that failed nothing is told
  pub said : ℕ → Option (List ℕ)
  -- how many bytes were written to files by that turn
  pub put_out : ℕ → ℕ
  -- how many bytes the reads asked for that were made before the turn rose above this one
  pub asked : ℕ → ℕ
  -- how often the disk and the saying failed, and how often a read gave fewer bytes than it could
  pub disk_faults : ℕ
  pub say_faults : ℕ
  pub short_reads : ℕ

-- a count rose: it is greater, or it stands at its type's end
abbrev pub Rose : ℕ → ℕ → Type 0
Rose before after = min (before + 1) (2 ^ 64 - 1) ≤ after

-- both have the same files with the same bytes
abbrev pub SameFiles : Image → Image → Type 0
SameFiles old new = (name : FileName) → file_in new name ≡ file_in old name

-- both have the same files with the same bytes, this one aside
abbrev pub SameBut : FileName → Image → Image → Type 0
SameBut but old new = (name : FileName) → is_name but name ≡ false → file_in new name ≡ file_in old name

-- A history goes on from one turn to a later one: what it was stays, and since then it is this.
pub record GoesOn {A : Type 0} (from to : ℕ) (old new : ℕ → A) (now : A) : Type 0 where
  pub stays : (t : ℕ) → t ≤ from → new t ≡ old t
  pub since : (t : ℕ) → from < t → t ≤ to → new t ≡ now

-- nothing was said
abbrev pub Silent : HostState → HostState → Type 0
Silent old new = GoesOn old.turn new.turn old.said new.said (old.said old.turn)

-- What a crash may leave goes on: what it might leave at an earlier turn stays so, and each image that it may leave
-- since comes by this step from one that it might leave at the start.
pub record Moves (old new : HostState) (step : Image → Image → Type 0) : Type 0 where
  pub later : old.turn ≤ new.turn
  pub past : (t : ℕ) (c : Image) → t ≤ old.turn → new.left t c → old.left t c
  pub kept : (t : ℕ) (c : Image) → t ≤ old.turn → old.left t c → new.left t c
  pub now : (t : ℕ) (c : Image) → old.turn < t → t ≤ new.turn → new.left t c → (d : Image) × old.left old.turn d × step d c

-- Nothing changed but what was asked for and what is counted.
pub record Stands (old new : HostState) : Type 0 where
  pub turn : new.turn ≡ old.turn
  pub files : SameFiles old.files new.files
  pub past : (t : ℕ) (c : Image) → t ≤ old.turn → new.left t c → old.left t c
  pub kept : (t : ℕ) (c : Image) → t ≤ old.turn → old.left t c → new.left t c
  pub said : (t : ℕ) → t ≤ old.turn → new.said t ≡ old.said t
  pub put_out : (t : ℕ) → t ≤ old.turn → new.put_out t ≡ old.put_out t

-- so many more bytes were asked for, all of them at the present turn
pub record Asks (old new : HostState) (count : ℕ) : Type 0 where
  pub past : (t : ℕ) → t < old.turn → new.asked t ≡ old.asked t
  pub now : new.asked old.turn ≡ old.asked old.turn + count
