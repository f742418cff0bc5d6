-- Data files: an open gate before each frame that counts, and a closed one behind the last.
use Rattle.std.specs.Prelude.{◌≡◌, ℕ, zero, suc, ◌+◌, ◌^◌, ◌==◌, List, [], ◌∷◌, ◌++◌, ◌<◌, length, drop, flat_map, All, Option, Some, None, nat_le, if◌then◌else◌}
use Rattle.cache_model.specs.declared.faults.BadKind.{BadKind}
use Rattle.cache_model.specs.declared.faults.BadKind.TheVariants.{Cut, Place, Version}
use Rattle.cache_model.specs.Items.{Item, put, removal, end, IsItem, IsRecord, spelling, Front, whole, cut, bad, front}

-- A frame: its records, and the moment of its end.
pub record Frame : Type 0 where
  pub records : List Item
  pub moment : ℕ

-- the items of a frame: its records and its end
abbrev pub items_of : Frame → List Item
items_of frame = frame.records ++ (end frame.moment ∷ [])

-- A frame whose records and end are within their limits, and whose end begins below 2^32, where the frame begins there.
pub record IsFrameAt (at : ℕ) (frame : Frame) : Type 0 where
  pub records : All IsRecord frame.records
  pub moment : IsItem (end frame.moment)
  pub below : at + length (flat_map spelling frame.records) < 2 ^ 32

-- a frame is spelled item by item
abbrev pub frame_spelling : Frame → List ℕ
frame_spelling frame = flat_map spelling (items_of frame)

-- frames one after another from an offset on, a gate behind each
abbrev pub AreFramesAt : ℕ → List Frame → Type 0
AreFramesAt at [] = Unit {0}
AreFramesAt at (frame ∷ frames) = IsFrameAt at frame × AreFramesAt (at + length (frame_spelling frame) + 1) frames

-- the frames of a file
abbrev pub AreFrames : List Frame → Type 0
AreFrames frames = AreFramesAt 2 frames

-- frames behind the first, each behind its open gate, and a closed gate at the end
abbrev pub frames_spelling : List Frame → List ℕ
frames_spelling [] = 0 ∷ []
frames_spelling (frame ∷ frames) = (1 ∷ []) ++ frame_spelling frame ++ frames_spelling frames

-- A file at rest: a closed gate alone, or an open gate, the version, and its frames with their gates.
abbrev pub file_spelling : List Frame → List ℕ
file_spelling [] = 0 ∷ []
file_spelling (frame ∷ frames) = (1 ∷ 1 ∷ []) ++ frame_spelling frame ++ frames_spelling frames

-- What a reading of a file finds: the items of the counted frames, each with its offset, and the first damage.
pub record Found : Type 0 where
  pub items : List (ℕ × Item)
  pub damage : Option (ℕ × BadKind)

-- nothing more is counted
abbrev pub nothing : Found
nothing = record { items = []; damage = None }

-- the file is damaged at this offset
abbrev pub damaged : ℕ → BadKind → Found
damaged at kind = record { items = []; damage = Some (at, kind) }

-- one item, and what is found behind it
abbrev pub and_then : ℕ × Item → Found → Found
and_then item found = record { items = item ∷ found.items; damage = found.damage }

-- behind the end of a frame stands a gate: where it is open, the next frame counts; where there is none, the file is cut
abbrev pub found_at_gate : (ℕ → List ℕ → Found) → ℕ → List ℕ → Found
found_at_gate in_frame at [] = damaged at Cut
found_at_gate in_frame at (gate ∷ rest) = if gate == 1 then in_frame (at + 1) rest else nothing

-- behind an item: another item of its frame, or a gate
abbrev pub found_behind : (ℕ → List ℕ → Found) → Item → ℕ → List ℕ → Found
found_behind in_frame (put seq until key value) at rest = in_frame at rest
found_behind in_frame (removal seq key) at rest = in_frame at rest
found_behind in_frame (end moment) at rest = found_at_gate in_frame at rest

-- where an item is due
abbrev pub found_at_item : (ℕ → List ℕ → Found) → ℕ → List ℕ → Front → Found
found_at_item in_frame at bytes (whole item size) = and_then (at, item) (found_behind in_frame item (at + size) (drop size bytes))
found_at_item in_frame at bytes cut = damaged at Cut
found_at_item in_frame at bytes (bad kind) = damaged at kind

-- within a counted frame, at an offset with these bytes from there on; no more than so many items are read
abbrev pub found_within : ℕ → ℕ → List ℕ → Found
found_within zero at bytes = nothing
found_within (suc most) at bytes =
    if nat_le (2 ^ 32) at then damaged at Place else found_at_item (λ next rest. found_within most next rest) at bytes (front bytes)

-- from the version byte on, behind an open first gate
abbrev pub found_at_version : List ℕ → Found
found_at_version [] = nothing
found_at_version (version ∷ rest) = if version == 1 then found_within (length rest + 1) 2 rest else damaged 1 (Version version)

-- What a reading of a whole file finds. Each item has a byte at least, so the number of bytes bounds that of the items.
abbrev pub found_in : List ℕ → Found
found_in [] = nothing
found_in (gate ∷ rest) = if gate == 1 then found_at_version rest else nothing

-- the items of the counted frames, each with its offset
abbrev pub counted_items : List ℕ → List (ℕ × Item)
counted_items bytes = (found_in bytes).items

-- the first damage: its offset and its kind
abbrev pub first_damage : List ℕ → Option (ℕ × BadKind)
first_damage bytes = (found_in bytes).damage

-- a file without damage
abbrev pub IsUndamaged : List ℕ → Type 0
IsUndamaged bytes = first_damage bytes ≡ None

-- items one after another from an offset on, each with its offset
abbrev pub placed_items : ℕ → List Item → List (ℕ × Item)
placed_items at [] = []
placed_items at (item ∷ items) = (at, item) ∷ placed_items (at + length (spelling item)) items

-- frames one after another from an offset on, a gate behind each
abbrev pub placed_frames : ℕ → List Frame → List (ℕ × Item)
placed_frames at [] = []
placed_frames at (frame ∷ frames) = placed_items at (items_of frame) ++ placed_frames (at + length (frame_spelling frame) + 1) frames

-- what is found in a file whose counted frames are these
abbrev pub found_of : List Frame → Found
found_of frames = record { items = placed_frames 2 frames; damage = None }

-- a file whose counted frames are just these, undamaged, whatever stands behind the first closed gate
abbrev pub CountsFrames : List Frame → List ℕ → Type 0
CountsFrames frames bytes = found_in bytes ≡ found_of frames
