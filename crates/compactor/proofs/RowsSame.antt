-- Where the same records count, the parts stand for them as before.
use Rattle.std.proofs.Common.{◌≡◌, ℕ, Bool, List, [], length, drop, Option, Some, None, unwrap_or, ◌∙◌, ap}
use Rattle.std.proofs.lemmas.List.Elements.{All-weaker}
use Rattle.cache_model.specs.declared.files.Place.{Place}
use Rattle.cache_model.specs.declared.index.IndexKey.{IndexKey}
use Rattle.cache_model.specs.declared.index.IndexValue.{IndexValue}
use Rattle.cache_model.specs.Files.{Image, file_in, bytes_in}
use Rattle.cache_model.specs.Items.{Item, spelling, whole, front}
use Rattle.cache_model.specs.Images.{log_name, key_of}
use Rattle.temporary_table.specs.declared.requests.Request.{Request}
use Rattle.temporary_table.specs.declared.requests.Request.TheVariants.{Set, Swap, Drop, Less}
use Rattle.temporary_table.specs.Places.{Places}
use Rattle.tree_index.specs.Index.{Index}
use Rattle.compactor.specs.Counting.{Counts, IsNewestBy, AreThere, CountSame}
use Rattle.compactor.specs.Indexing.{IsPlaced, IsPut, IsEntryOf, IsIndexed, StandsAt, last_put}

module _ (counts more : Counts) (same : CountSame counts more) where
  abbrev placed_same : (key : List ℕ) (place : Place) (gone : Bool) → IsPlaced counts key place gone → IsPlaced more key place gone
  placed_same key place gone is = record {
    item = is.item;
    counted = same.kept place.file place.at is.item key is.counted is.of_key;
    of_key = is.of_key;
    long = is.long;
    gone_is = is.gone_is;
  }

  newest_same : (key : List ℕ) (number at : ℕ) (item : Item) → IsNewestBy counts key number at item → IsNewestBy more key number at item
  newest_same key number at item is = record {
    counted = same.kept number at item key is.counted is.of_key;
    of_key = is.of_key;
    newest = λ n a other counted of_key. is.newest n a other (same.only n a other key counted of_key) of_key;
  }

  put_same : (request : Request) → IsPut counts request → IsPut more request
  put_same (Set key to gone) is = placed_same key to gone is
  put_same (Swap key from to) is = record {
    item = is.item;
    was = same.kept from.file from.at is.item key is.was is.of_key;
    counted = same.kept to.file to.at is.item key is.counted is.of_key;
    of_key = is.of_key;
    long = is.long;
  }
  put_same (Drop key from) is = is
  put_same (Less key) is = is

  abbrev entry_same : (bits : ℕ) (key : List ℕ) (at : IndexKey) (value : IndexValue) → IsEntryOf counts bits key at value → IsEntryOf more bits key at value
  entry_same bits key at value is = record {
    hash_is = is.hash_is;
    placed = placed_same key (record { file = at.file; at = at.at; length = value.length }) value.gone is.placed;
    some = is.some;
  }

  stands_same : (index : Index) (key : List ℕ) (last : Option Place) (from : Place) → StandsAt counts index key last from → StandsAt more index key last from
  stands_same index key None from stands = record {
    at = stands.at;
    value = stands.value;
    there = stands.there;
    entry = entry_same index.bits key stands.at stands.value stands.entry;
    file_is = stands.file_is;
    at_is = stands.at_is;
  }
  stands_same index key (Some last) from stands = stands

swapped : (counts more : Counts) → CountSame counts more → CountSame more counts
swapped counts more same = record { kept = same.only; only = same.kept }

pub indexed_same : (counts more : Counts) (places : Places) (index : Index) (waiting : List Request) → CountSame counts more → IsIndexed counts places index waiting → IsIndexed more places index waiting
indexed_same counts more places index waiting same is = record {
  queued = is.queued;
  requested = All-weaker (IsPut counts) (IsPut more) (put_same counts more same) waiting is.requested;
  apart = is.apart;
  swaps = λ key from to before after split. stands_same counts more same index key (last_put key before) from (is.swaps key from to before after split);
  placed = λ key place gone at.
      let held = is.placed key place gone at in
      (placed_same counts more same key place gone held.0, newest_same counts more same key place.file place.at held.0.item held.1);
  indexed = λ at value there.
      let held = is.indexed at value there in
      (held.0, entry_same counts more same index.bits held.0 at value held.1);
  single = λ one other v w key there there_too entry entry_too.
      is.single one other v w key there there_too (entry_same more counts (swapped counts more same) index.bits key one v entry) (entry_same more counts (swapped counts more same) index.bits key other w entry_too);
  newest = λ key away n a item counted of_key.
      let held = is.newest key away n a item (same.only n a item key counted of_key) of_key in (
        held.0,
        held.1,
        record {
          there = held.2.there;
          entry = entry_same counts more same index.bits key held.0 held.1 held.2.entry;
          newest = newest_same counts more same key held.0.file held.0.at held.2.entry.placed.item held.2.newest;
        },
      );
}

-- Where the files have each of them too, they are there.
pub there_same : (counts more : Counts) (a b : Image) → CountSame counts more
    → ((n at : ℕ) (item : Item) (key : List ℕ) → more n at item → key_of item ≡ Some key → front (drop at (bytes_in b (log_name n))) ≡ whole item (length (spelling item)))
    → AreThere counts a → AreThere more b
there_same counts more a b same stands is = record {
  is_item = λ n at item key counted of_key. is.is_item n at item key (same.only n at item key counted of_key) of_key;
  there = stands;
}

-- Where the data files read alike, what is there stays there.
pub there_alike : (counts : Counts) (a b : Image) → ((n : ℕ) → file_in b (log_name n) ≡ file_in a (log_name n)) → AreThere counts a → AreThere counts b
there_alike counts a b same is = record {
  is_item = is.is_item;
  there = λ n at item key counted of_key. ap (λ (file : Option (List ℕ)). front (drop at (unwrap_or file []))) (same n) ∙ is.there n at item key counted of_key;
}
