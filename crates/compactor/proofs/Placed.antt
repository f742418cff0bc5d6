-- What is read at a place where a record counts.
use Rattle.std.proofs.Common.{◌≡◌, ℕ, ◌+◌, ◌≤◌, ◌==◌, Bool, true, List, length, drop, Some, None, refl, sym, ◌∙◌, ap, arith, length-drop}
use Rattle.std.specs.Prelude.{◌&&◌, if◌then◌else◌}
use Rattle.std.proofs.lemmas.Bool.Decides.{nat_tests}
use Rattle.cache_model.specs.declared.faults.BadKind.TheVariants.{Place as OtherPlace}
use Rattle.cache_model.specs.declared.files.Place.{Place}
use Rattle.cache_model.specs.Files.{Image, bytes_in}
use Rattle.cache_model.specs.Items.{Item, put, removal, end, Front, whole, front}
use Rattle.cache_model.specs.Images.{log_name, key_of}
use Rattle.cache_model.proofs.Spelled.{spelling-some}
use Rattle.data_file.specs.Fetching.{bytes_at, is_record, wrong_with}
use Rattle.data_file.proofs.Within.{front_within, front_fits}
use Rattle.compactor.specs.Counting.{Counts, AreThere}
use Rattle.compactor.specs.Indexing.{IsPlaced}

-- an item with a key is a record
with_key : (item : Item) (key : List ℕ) → key_of item ≡ Some key → is_record item ≡ true
with_key (put seq until named value) key is = refl
with_key (removal seq named) key is = refl
with_key (end moment) key is = cc

module _ (counts : Counts) (files : Image) (there : AreThere counts files) (key : List ℕ) (place : Place) (gone : Bool) (is : IsPlaced counts key place gone) where
  stands : front (drop place.at (bytes_in files (log_name place.file))) ≡ whole is.item place.length
  stands = there.there place.file place.at is.item key is.counted is.of_key ∙ ap (λ (n : ℕ). whole is.item n) (sym is.long)

  -- the record stands there, in all bytes of the place
  pub reads_whole : front (bytes_at files (log_name place.file) place) ≡ whole is.item place.length
  reads_whole = front_within (drop place.at (bytes_in files (log_name place.file))) is.item place.length stands

  -- whatever is read there whole is that record
  pub reads_item : (item : Item) → front (bytes_at files (log_name place.file) place) ≡ whole item place.length → item ≡ is.item
  reads_item item read = let both : whole item place.length ≡ whole is.item place.length = sym read ∙ reads_whole in cc

  -- nothing is wrong there
  pub reads_sound : wrong_with place.length (front (bytes_at files (log_name place.file) place)) ≡ None
  reads_sound =
      ap (λ (f : Front). wrong_with place.length f) reads_whole
      ∙ ap (λ (b : Bool). if b && place.length == place.length then None else Some OtherPlace) (with_key is.item key is.of_key)
      ∙ ap (λ (b : Bool). if b then None else Some OtherPlace) (let same : (place.length == place.length) ≡ true = grind (arith, nat_tests) in same)

  -- the place lies within the file
  pub lies_within : place.at + place.length ≤ length (bytes_in files (log_name place.file))
  lies_within =
      let most : place.length ≤ length (drop place.at (bytes_in files (log_name place.file))) = front_fits (drop place.at (bytes_in files (log_name place.file))) is.item place.length stands in
      omega (arith, most, is.long, spelling-some is.item, length-drop place.at (bytes_in files (log_name place.file)))
