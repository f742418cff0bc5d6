-- Lists that are held with a tree above them, so that the first number below a limit is found by going down.
use Rattle.std.specs.Prelude.{◌≡◌, ℕ, ◌+◌, ◌*◌, ◌/◌, ◌^◌, ◌<◌, ◌≤◌, ◌==◌, min, if◌then◌else◌, List, length, drop, slice_index, slice_index_or, Option, Some, None}
use Rattle.cache_model.specs.declared.files.FileCount.{FileCount}

-- The class of a file: how many percent of its bytes are live, rounded down. A file of no byte has the class 101, which
-- is below no limit.
abbrev pub class_of : FileCount → ℕ
class_of row = if row.size == 0 then 101 else row.live * 100 / row.size

-- a row that no file has
abbrev pub no_row : FileCount
no_row = record { number = 0; size = 0; live = 0 }

-- the class at a place: that of its row, and 101 where it has none
abbrev pub class_at : List FileCount → ℕ → ℕ
class_at rows place = class_of (slice_index_or rows place no_row)

-- these are the classes of the rows, place by place
abbrev pub AreClassesOf : List FileCount → List ℕ → Type 0
AreClassesOf rows classes = (place : ℕ) → place < length classes → slice_index classes place ≡ class_at rows place

-- a node is the lesser of its two children
abbrev pub IsLesser : List ℕ → ℕ → Type 0
IsLesser nodes i = slice_index nodes i ≡ min (slice_index nodes (2 * i)) (slice_index nodes (2 * i + 1))

-- each node from the first one on that has children is the lesser of them. Node 1 is the root, and node 0 isn't used
abbrev pub IsSettledFrom : ℕ → List ℕ → Type 0
IsSettledFrom first nodes = (i : ℕ) → first ≤ i → 2 * i + 1 < length nodes → IsLesser nodes i

-- A tree so many levels high: the lower half of the nodes have children, and the upper half are leaves.
pub record IsTree (height : ℕ) (nodes : List ℕ) : Type 0 where
  pub count : length nodes ≡ 2 ^ (height + 1)
  pub settled : IsSettledFrom 1 nodes

-- the leaves of a tree
abbrev pub leaves_of : ℕ → List ℕ → List ℕ
leaves_of height nodes = drop (2 ^ height) nodes

-- the leaves stay: the upper half of the nodes
abbrev pub SameLeaves : List ℕ → List ℕ → Type 0
SameLeaves old new = (k : ℕ) → length old ≤ 2 * k → slice_index new k ≡ slice_index old k

-- A place between two bounds whose number is the first one there below a limit.
pub record IsFirst (limit from to : ℕ) (numbers : List ℕ) (place : ℕ) : Type 0 where
  pub low : from ≤ place
  pub high : place < to
  pub below : slice_index numbers place < limit
  pub first : (k : ℕ) → from ≤ k → k < place → limit ≤ slice_index numbers k

-- the first place between two bounds whose number is below a limit, none where there is none
abbrev pub IsFirstBelow : ℕ → ℕ → ℕ → List ℕ → Option ℕ → Type 0
IsFirstBelow limit from to numbers None = (k : ℕ) → from ≤ k → k < to → limit ≤ slice_index numbers k
IsFirstBelow limit from to numbers (Some place) = IsFirst limit from to numbers place
