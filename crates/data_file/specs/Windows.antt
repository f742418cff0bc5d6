-- What a window shows of a file.
use Rattle.std.specs.Prelude.{◌≡◌, ◌⊎◌, ℕ, ◌+◌, ◌≤◌, List, length, take, drop}
use Rattle.cache_disk.specs.State.{HostState, Rose, Asks}
use Rattle.data_file.specs.declared.window.Window.{Window}

-- the bytes that were read and not forgotten
abbrev pub shown_bytes : Window → List ℕ
shown_bytes window = drop window.forgotten window.bytes.items

-- up to which offset the file was read
abbrev pub known_to : Window → ℕ
known_to window = window.at + length (shown_bytes window)

-- The window shows these bytes of a file from its offset on.
pub record ShowsFile (window : Window) (file : List ℕ) : Type 0 where
  pub sized : window.size ≡ length file
  pub shown : shown_bytes window ≡ take (length (shown_bytes window)) (drop window.at file)

-- the window has the bytes of any item, or all that the file has from its offset on
abbrev pub IsFull : Window → Type 0
IsFull window = (66583 ≤ length (shown_bytes window)) ⊎ (known_to window ≡ window.size)

-- so many bytes were asked for, if no read gave fewer bytes than it could
abbrev pub AsksFor : HostState → HostState → ℕ → Type 0
AsksFor old new count = Rose old.short_reads new.short_reads ⊎ ((new.short_reads ≡ old.short_reads) × Asks old new count)
