-- What counts, and what a key reads by it.
use Rattle.std.specs.Prelude.{◌≡◌, ◌⊎◌, ℕ, ◌≤◌, List, length, drop, Option, Some, None, Contains}
use Rattle.cache_model.specs.declared.entries.Entry.{Entry}
use Rattle.cache_model.specs.Files.{Image, bytes_in}
use Rattle.cache_model.specs.Items.{Item, IsItem, spelling, whole, front}
use Rattle.cache_model.specs.Images.{log_name, IsCounted, key_of, sequence_of, entry_by, IsNoNewer}

-- what counts: items, each with the number of its file and its offset there
abbrev pub Counts : Type 1
Counts = ℕ → ℕ → Item → Type 0

-- The items of the file that is written, sealed or not, with that file's number, and the other files as they read.
pub record Kept : Type 0 where
  pub number : ℕ
  pub items : List (ℕ × Item)
  pub files : Image

-- what counts then: those items, and what counts in the other files
abbrev pub counts_in : Kept → Counts
counts_in kept n a item = ((n ≡ kept.number) × Contains kept.items (a, item)) ⊎ ((n ≡ kept.number → ⊥) × IsCounted kept.files n a item)

-- A record of a key counts, and no other record of the key that counts is newer.
pub record IsNewestBy (counts : Counts) (key : List ℕ) (number at : ℕ) (item : Item) : Type 0 where
  pub counted : counts number at item
  pub of_key : key_of item ≡ Some key
  pub newest : (n a : ℕ) (other : Item) → counts n a other → key_of other ≡ Some key → IsNoNewer (sequence_of other, n, a) (sequence_of item, number, at)

-- no record of a key counts
abbrev pub HasNone : Counts → List ℕ → Type 0
HasNone counts key = (n a : ℕ) (item : Item) → counts n a item → key_of item ≡ Some key → ⊥

-- what a key reads, by its newest record among those that count: nothing, that it was removed, or an entry
abbrev pub HasReading : Counts → List ℕ → Option (Option Entry) → Type 0
HasReading counts key reading =
    (HasNone counts key × (reading ≡ None))
    ⊎ ((number : ℕ) × (at : ℕ) × (item : Item) × IsNewestBy counts key number at item × (reading ≡ Some (entry_by item)))

-- a number that a data file may have
abbrev pub IsFileNumber : ℕ → Type 0
IsFileNumber n = (1 ≤ n) × (n ≤ 4294967294)

-- each record that counts stands whole at its place in the files
pub record AreThere (counts : Counts) (files : Image) : Type 0 where
  pub is_item : (n a : ℕ) (item : Item) (key : List ℕ) → counts n a item → key_of item ≡ Some key → IsItem item
  pub there : (n a : ℕ) (item : Item) (key : List ℕ) → counts n a item → key_of item ≡ Some key → front (drop a (bytes_in files (log_name n))) ≡ whole item (length (spelling item))

-- One record more counts, at a place where none did, and is the newest of its key.
pub record Adds (counts more : Counts) (key : List ℕ) (number at : ℕ) (item : Item) : Type 0 where
  pub fresh : (other : Item) (k : List ℕ) → counts number at other → key_of other ≡ Some k → ⊥
  pub kept : (n a : ℕ) (other : Item) (k : List ℕ) → counts n a other → key_of other ≡ Some k → more n a other
  pub only : (n a : ℕ) (other : Item) (k : List ℕ) → more n a other → key_of other ≡ Some k → counts n a other ⊎ ((n ≡ number) × (a ≡ at) × (other ≡ item))
  pub newest : IsNewestBy more key number at item

-- the same records count, ends of frames aside
pub record CountSame (counts more : Counts) : Type 0 where
  pub kept : (n a : ℕ) (item : Item) (key : List ℕ) → counts n a item → key_of item ≡ Some key → more n a item
  pub only : (n a : ℕ) (item : Item) (key : List ℕ) → more n a item → key_of item ≡ Some key → counts n a item
