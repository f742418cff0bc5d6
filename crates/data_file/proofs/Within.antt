-- A whole item stands in its own bytes, and what counts in a file stands whole at its offset.
use Rattle.std.proofs.Common.{◌≡◌, ℕ, ◌≤◌, List, length, take, drop, Contains}
use Rattle.cache_model.specs.Items.{Item, IsItem, spelling, whole, front}
use Rattle.cache_model.specs.DataFiles.{counted_items}
use Rattle.cache_model.proofs.Spelling.{whole-item}
use Rattle.cache_model.proofs.Standing.{front-stands, standing-within}
use Rattle.data_file.proofs.Cutting.{standing-cut}
use Rattle.data_file.proofs.Laid.{counted-laid, laid-stands}

-- a whole item at the front of some bytes stands in just its own
pub front_within : (bytes : List ℕ) (item : Item) (size : ℕ) → front bytes ≡ whole item size → front (take size bytes) ≡ whole item size
front_within bytes item size is = standing-cut bytes item size (front-stands bytes item size is)

-- and has no more bytes than there are
pub front_fits : (bytes : List ℕ) (item : Item) (size : ℕ) → front bytes ≡ whole item size → size ≤ length bytes
front_fits bytes item size is = standing-within bytes item size (front-stands bytes item size is)

-- an item that counts stands at its offset, with all of its spelling
pub counted_front : (bytes : List ℕ) (at : ℕ) (item : Item) → Contains (counted_items bytes) (at, item) → front (drop at bytes) ≡ whole item (length (spelling item))
counted_front bytes at item counted = laid-stands bytes 0 (counted_items bytes) (at, item) (counted-laid bytes) counted

-- and is within its limits
pub counted_item : (bytes : List ℕ) (at : ℕ) (item : Item) → Contains (counted_items bytes) (at, item) → IsItem item
counted_item bytes at item counted = whole-item (drop at bytes) item (length (spelling item)) (counted_front bytes at item counted)
