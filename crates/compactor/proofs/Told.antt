-- Whether the record at a place is told to be its key's newest.
use Rattle.std.proofs.Common.{◌≡◌, ℕ, Bool, true, IsTrue, List, Contains, Some, None, sym, ◌∙◌, ap, subst}
use Rattle.std.specs.Prelude.{Any, ◌↔◌}
use Rattle.cache_model.specs.declared.files.Place.{Place}
use Rattle.cache_model.specs.Files.{Image}
use Rattle.cache_model.specs.Hash.{hash}
use Rattle.cache_model.specs.Items.{Item}
use Rattle.cache_model.specs.Images.{key_of}
use Rattle.temporary_table.specs.declared.requests.Request.{Request}
use Rattle.temporary_table.specs.Places.{Places, place_of}
use Rattle.tree_index.specs.Index.{Index, AreOrdered, entries_of}
use Rattle.compactor.specs.Counting.{Counts, IsNewestBy, AreThere}
use Rattle.compactor.specs.Entering.{Row, stands_at}
use Rattle.compactor.specs.Indexing.{IsEntryOf, IsIndexed}
use Rattle.compactor.specs.Looking.{TellsNewest}
use Rattle.compactor.proofs.Entries.{among_held, held}
use Rattle.compactor.proofs.Looked.{newest_is, same_keys}
use Rattle.compactor.proofs.Rows.{newest_place, placed_once}
use Rattle.compactor.proofs.Standing.{stands, stood}

module _ (counts : Counts) (files : Image) (places : Places) (index : Index) (waiting : List Request) (is : IsIndexed counts places index waiting) (there : AreThere counts files) (key : List ℕ) (place : Place) where
  -- the newest record of a key, found at a place, is the one that counts there
  newest_here : (n a : ℕ) (one item : Item) → IsNewestBy counts key n a one → n ≡ place.file → a ≡ place.at → counts place.file place.at item → key_of item ≡ Some key → IsNewestBy counts key place.file place.at item
  newest_here n a one item newest file at counted of_key =
      let moved : IsNewestBy counts key place.file place.at one = subst (λ (m : ℕ). IsNewestBy counts key m place.at one) file (subst (λ (b : ℕ). IsNewestBy counts key n b one) at newest) in
      let same = placed_once counts files there place.file place.at one item key key moved.counted moved.of_key counted of_key in
      subst (λ (i : Item). IsNewestBy counts key place.file place.at i) same moved

  -- by the key's place in the table
  pub told_placed : (placed : Place) (gone : Bool) → place_of places key ≡ Some (placed, gone) → TellsNewest counts key place (stands_at placed.file placed.at place)
  told_placed placed gone at item counted of_key =
      let newest = is.placed key placed gone at in (
        λ yes. (let same = stood placed.file placed.at place yes in newest_here placed.file placed.at newest.0.item item newest.1 same.0 same.1 counted of_key),
        λ newest_too. (let same = newest_place counts key placed.file place.file placed.at place.at newest.0.item item newest.1 newest_too in stands placed.file placed.at place same.0 same.1),
      )

  -- an entry of the key's hash stands there
  abbrev pub StandsAmong : Type 0
  StandsAmong = Any (λ (e : Row). stands_at e.0.file e.0.at place ≡ true) (entries_of (hash index.bits key) index.entries)

  -- or else by the entries of the key's hash
  pub told_among : AreOrdered index.entries → place_of places key ≡ None → (told : Bool) → (IsTrue told ↔ StandsAmong) → TellsNewest counts key place told
  told_among ordered unplaced told by item counted of_key = (λ yes. forth (by.0 yes), λ newest. by.1 (back newest))
    where
      forth : StandsAmong → IsNewestBy counts key place.file place.at item
      forth any =
          let e : Row = any.1 in
          let here = held index.entries ordered (hash index.bits key) e (any.0, any.2, any.3) in
          let entry = is.indexed e.0 e.1 here.0 in
          let same = stood e.0.file e.0.at place any.4 in
          let counted_there : counts place.file place.at entry.1.placed.item = subst (λ (m : ℕ). counts m place.at entry.1.placed.item) same.0 (subst (λ (b : ℕ). counts e.0.file b entry.1.placed.item) same.1 entry.1.placed.counted) in
          let same_item = placed_once counts files there place.file place.at entry.1.placed.item item entry.0 key counted_there entry.1.placed.of_key counted of_key in
          let own : entry.0 ≡ key = same_keys entry.0 key item (ap key_of (sym same_item) ∙ entry.1.placed.of_key) of_key in
          let of_it : IsEntryOf counts index.bits key e.0 e.1 = subst (λ (k : List ℕ). IsEntryOf counts index.bits k e.0 e.1) own entry.1 in
          newest_here e.0.file e.0.at of_it.placed.item item (newest_is counts files places index waiting is there ordered key unplaced e.0 e.1 here.0 of_it) same.0 same.1 counted of_key

      back : IsNewestBy counts key place.file place.at item → StandsAmong
      back newest =
          let found = is.newest key unplaced place.file place.at item counted of_key in
          let same = newest_place counts key found.0.file place.file found.0.at place.at found.2.entry.placed.item item found.2.newest newest in
          let among : Contains (entries_of (hash index.bits key) index.entries) (found.0, found.1) = among_held index.entries (hash index.bits key) found.0 found.1 found.2.there found.2.entry.hash_is in
          (among.0, (found.0, found.1), among.1, among.2, stands found.0.file found.0.at place same.0 same.1)
