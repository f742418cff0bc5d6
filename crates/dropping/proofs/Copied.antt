-- What a key says where copies of its newest record count too.
use Rattle.std.proofs.Common.{◌≡◌, inl, inr, ⊎_elim, ℕ, List, Option, Some, ◌∙◌, ap}
use Rattle.cache_model.specs.declared.entries.Entry.{Entry}
use Rattle.cache_model.specs.Files.{Image}
use Rattle.cache_model.specs.Items.{Item}
use Rattle.cache_model.specs.Images.{IsCounted, key_of, sequence_of, entry_by, IsNewest, HasNoRecord, HasEntry}
use Rattle.cache_model.proofs.Existing.{through, newest_exists}
use Rattle.dropping.specs.Going.{HasCopies, CopiesKeep}

module _ (image more : Image) (key : List ℕ) (has : HasCopies image more key) where
  kept : (n a : ℕ) (item : Item) → IsCounted image n a item → key_of item ≡ Some key → IsCounted more n a item
  kept n a item counted of_key = (has.kept n a item (record { counted = counted; of_key = of_key })).counted

  none_more : HasNoRecord image key → HasNoRecord more key
  none_more none n a item counted of_key = ⊎_elim
      (λ old. none n a item old.counted old.of_key)
      (λ copy. none copy.number copy.at item copy.newest.counted copy.newest.of_key)
      (has.only n a item (record { counted = counted; of_key = of_key }))

  -- what the newest record says, with the copies, is what it says without them
  entry_before : (entry : Option Entry) → HasEntry more key entry → HasEntry image key entry
  entry_before entry (inl none) = inl (λ n a item counted of_key. none.0 n a item (kept n a item counted of_key) of_key, none.1)
  entry_before entry (inr some) = ⊎_elim
      (λ old. inr (
        some.0,
        some.1,
        some.2,
        record { counted = old.counted; of_key = old.of_key; newest = λ n a other counted of_key. some.3.newest n a other (kept n a other counted of_key) of_key },
        some.4,
      ))
      (λ copy. inr (copy.number, copy.at, some.2, copy.newest, some.4))
      (has.only some.0 some.1 some.2 (record { counted = some.3.counted; of_key = some.3.of_key }))

  -- where the newest one is an old one, the newest without the copies is it too
  still_newest : (n a m b : ℕ) (item other : Item) → IsNewest image key n a item → IsNewest more key m b other → IsCounted image m b other → IsNewest more key n a item
  still_newest n a m b item other is also old = record {
    counted = kept n a item is.counted is.of_key;
    of_key = is.of_key;
    newest = λ k c one counted of_key. through (sequence_of one, k, c) (sequence_of other, m, b) (sequence_of item, n, a)
        (also.newest k c one counted of_key)
        (is.newest m b other old also.of_key);
  }

  entry_more : (entry : Option Entry) → HasEntry image key entry → HasEntry more key entry
  entry_more entry (inl none) = inl (none_more none.0, none.1)
  entry_more entry (inr some) = ⊎_elim
      (λ none. absurd (none some.0 some.1 some.2 (kept some.0 some.1 some.2 some.3.counted some.3.of_key) some.3.of_key))
      (λ newest. ⊎_elim
      (λ old. inr (some.0, some.1, some.2, still_newest some.0 some.1 newest.0 newest.1 some.2 newest.2 some.3 newest.3 old.counted, some.4))
      (λ copy. inr (newest.0, newest.1, newest.2, newest.3, some.4 ∙ ap entry_by (copy.sole some.0 some.1 some.2 some.3)))
      (has.only newest.0 newest.1 newest.2 (record { counted = newest.3.counted; of_key = newest.3.of_key })))
      (newest_exists more key)

pub copies_keep : CopiesKeep
copies_keep image more key entry has = (entry_more image more key has entry, entry_before image more key has entry)
