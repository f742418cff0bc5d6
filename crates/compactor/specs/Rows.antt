-- What the parts read of the files: under each key its entry, or that it was removed.
use Rattle.std.specs.Prelude.{ℕ, List, ◌++◌, drop, filter_map, Option, None, option_map, option_and_then}
use Rattle.cache_model.specs.declared.entries.Entry.{Entry}
use Rattle.cache_model.specs.Files.{Image, bytes_in}
use Rattle.cache_model.specs.Items.{Item, Front, whole, cut, bad, front}
use Rattle.cache_model.specs.Images.{log_name, key_of, entry_by}
use Rattle.temporary_table.specs.Places.{Places, Seat, place_of}
use Rattle.tree_index.specs.Index.{Index}
use Rattle.compactor.specs.declared.parts.Parts.{Parts}

-- a key with its entry, or that it was removed
abbrev pub KeyRow : Type 0
KeyRow = List ℕ × Option Entry

-- the row of a record
abbrev pub row_of_item : Item → Option KeyRow
row_of_item item = option_map (λ key. (key, entry_by item)) (key_of item)

-- the row of what stands in front of some bytes
abbrev pub row_of_front : Front → Option KeyRow
row_of_front (whole item n) = row_of_item item
row_of_front cut = None
row_of_front (bad kind) = None

-- the row of the record at an offset of a data file
abbrev pub row_at : Image → ℕ → ℕ → Option KeyRow
row_at files number at = row_of_front (front (drop at (bytes_in files (log_name number))))

-- the row of what a key's seat has
abbrev pub placed_row : Image → Seat → Option KeyRow
placed_row files seat = option_and_then (λ placed. row_at files placed.0.file placed.0.at) seat

-- The rows of all keys that have a place, and behind them those of the index. The first row of a key counts.
abbrev pub rows_of : Image → Places → Index → List KeyRow
rows_of files places index =
    filter_map (λ seat. placed_row files (place_of places seat.0)) places.seats
    ++ filter_map (λ entry. row_at files entry.0.file entry.0.at) index.entries

-- the rows of the parts
abbrev pub parts_rows : Image → Parts → List KeyRow
parts_rows files parts = rows_of files parts.table parts.tree
