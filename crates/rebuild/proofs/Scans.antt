-- Taking the items of a scan, one after another.
use Rattle.std.proofs.Common.{◌≡◌, inl, inr, ⊎_elim, ℕ, ◌+◌, ◌<◌, ◌≤◌, ◌==◌, true, false, List, [], ◌∷◌, ◌++◌, length, Contains, Some, None, Result, Ok, IsErrOf, refl, sym, ap, subst, ◌∙◌, append_assoc, arith}
use Rattle.std.specs.Prelude.{sum_by, if◌then◌else◌}
use Rattle.std.proofs.lemmas.Bool.Decides.{nat_tests}
use Rattle.std.proofs.lemmas.List.{append-nil, map-append}
use Rattle.std.proofs.lemmas.List.Elements.{All-weaker, Contains-append_cases, Contains-append_left}
use Rattle.std.proofs.lemmas.List.Sums.{sum_by-append, sum_by-cons}
use Rattle.cache_model.specs.declared.faults.Damage.{Damage}
use Rattle.cache_model.specs.declared.faults.StoreFault.{StoreFault}
use Rattle.cache_model.specs.declared.faults.StoreFault.TheVariants.{Damaged}
use Rattle.cache_model.specs.declared.files.FileName.{FileName}
use Rattle.cache_model.specs.Files.{Image, bytes_in}
use Rattle.cache_model.specs.Items.{Item, spelling}
use Rattle.cache_model.specs.DataFiles.{Found, and_then, counted_items, first_damage, found_in, IsUndamaged}
use Rattle.cache_model.specs.Images.{log_name}
use Rattle.cache_model.proofs.Members.{among-here, among-later, among-map}
use Rattle.cache_disk.specs.State.{SameFiles}
use Rattle.record_format.specs.Meaning.{own_item}
use Rattle.data_file.specs.declared.scan.Scanned.{Scanned}
use Rattle.data_file.specs.declared.scan.Scan.{Scan}
use Rattle.data_file.specs.Scanning.{IsScanOf, rest_of, HasGiven, NamesDamage}
use Rattle.data_file.proofs.Laid.{AreLaid, counted-laid, laid-below, laid-total}
use Rattle.tree_index.specs.Index.{Entries, Index}
use Rattle.rebuild.specs.declared.figures.Figures.{Figures}
use Rattle.rebuild.specs.Listing.{NamesDamageOf}
use Rattle.rebuild.specs.Reading.{AreRecords}
use Rattle.rebuild.specs.Taking.{AreIn, Counted, IsInFrontOf, IsNextFileOf, IsNextItem, IsRowAmong, StandsForItems, bytes_of, counted_in, counted_one}
use Rattle.rebuild.proofs.ReadRecords.{bytes-same, stands-there}
use Rattle.rebuild.proofs.Taken.{records-in}

-- what stands for items stands for them where the files are the same
pub stands-same : (a b : Image) (bits : ℕ) (entries : Entries) (figures : Figures) (counted : List Counted) → SameFiles a b → StandsForItems a bits entries figures counted → StandsForItems b bits entries figures counted
stands-same a b bits entries figures counted same stands = record {
  index = stands.index;
  rows = All-weaker (IsRowAmong a bits entries counted) (IsRowAmong b bits entries counted) (λ row is. record { size = is.size ∙ ap length (sym (bytes-same a b (log_name row.number) same)); live = is.live }) figures.rows stands.rows;
  others = stands.others;
}

pub records-same : (a b : Image) (entries : Entries) → SameFiles a b → AreRecords a entries → AreRecords b entries
records-same a b entries same records place value held = let one = records place value held in (one.0, stands-there a b place value.length one.0 same one.1)

pub next-same : (a b : Image) (counted : List Counted) (one : Counted) → SameFiles a b → IsNextItem a counted one → IsNextItem b counted one
next-same a b counted one same next = record {
  within = λ other among. subst (λ (bytes : List ℕ). Contains (counted_items bytes) (other.at, other.item)) (sym (bytes-same a b (log_name other.number) same)) (next.within other among);
  behind = next.behind;
  fits = subst (λ (bytes : List ℕ). bytes_of one.number counted + length (spelling one.item) ≤ length bytes) (sym (bytes-same a b (log_name one.number) same)) next.fits;
}

-- an item of a file
abbrev pub item_at : ℕ → ℕ × Item → Counted
item_at number one = record { number = number; at = one.0; item = one.1 }

-- how many bytes of a file an item has
abbrev pub part_in : ℕ → Counted → ℕ
part_in number one = if one.number == number then length (spelling one.item) else 0

part-other : (number : ℕ) (one : Counted) → one.number < number → part_in number one ≡ 0
part-other number one lower = let differs : (one.number == number) ≡ false = grind (arith, nat_tests) in ap (λ b. if b then length (spelling one.item) else 0) differs

part-own : (number : ℕ) (one : ℕ × Item) → part_in number (item_at number one) ≡ length (spelling one.1)
part-own number one = let same : (number == number) ≡ true = grind (arith, nat_tests) in ap (λ b. if b then length (spelling one.1) else 0) same

-- none of what was taken of files with lower numbers has bytes of this one
bytes-other : (number : ℕ) (earlier : List Counted) → ((one : Counted) → Contains earlier one → one.number < number) → bytes_of number earlier ≡ 0
bytes-other number [] lower = refl
bytes-other number (first ∷ earlier) lower =
    let rest = bytes-other number earlier (λ one among. lower one (among-later first one earlier among)) in
    sum_by-cons (part_in number) first earlier ∙ omega (arith, rest, part-other number first (lower first (among-here first earlier)))

-- and what was taken of this one has its own
bytes-own : (number : ℕ) (done : List (ℕ × Item)) → bytes_of number (counted_in number done) ≡ sum_by (λ one. length (spelling one.1)) done
bytes-own number [] = refl
bytes-own number (first ∷ done) =
    sum_by-cons (part_in number) (item_at number first) (counted_in number done)
    ∙ omega (arith, part-own number first, bytes-own number done)
    ∙ sym (sum_by-cons (λ (one : ℕ × Item). length (spelling one.1)) first done)

module _ (files : Image) (counted : List Counted) (number : ℕ) (next : IsNextFileOf files counted number) where
  abbrev file : List ℕ
  file = bytes_in files (log_name number)

  -- the first items of a file count in it
  pub within-file : (done rest : List (ℕ × Item)) → counted_items file ≡ done ++ rest → AreIn files (counted ++ counted_in number done)
  within-file done rest all one among = ⊎_elim
      (λ before. next.within one before)
      (λ here.
      let image = among-map (item_at number) done one here in
      subst (λ (c : Counted). Contains (counted_items (bytes_in files (log_name c.number))) (c.at, c.item)) image.is
      (subst (λ (l : List (ℕ × Item)). Contains l image.of) (sym all) (Contains-append_left done rest image.of image.among)))
      (Contains-append_cases counted (counted_in number done) one among)

  -- the next item of a file follows those that were taken
  pub next-item : (done rest : List (ℕ × Item)) (one : ℕ × Item) → counted_items file ≡ done ++ one ∷ rest → IsNextItem files (counted ++ counted_in number done) (item_at number one)
  next-item done rest one all = record {
    within = within-file done (one ∷ rest) all;
    behind = λ other among. ⊎_elim
        (λ before. inl (next.lower other before))
        (λ here.
        let image = among-map (item_at number) done other here in
        subst (λ (c : Counted). IsInFrontOf c (item_at number one)) image.is (inr (refl, laid-below file 0 done one rest laid image.of image.among)))
        (Contains-append_cases counted (counted_in number done) other among);
    fits =
        let total = laid-total file 0 (done ++ one ∷ rest) laid in
        omega (arith, total, whole, sum_by-append (λ (one : ℕ × Item). length (spelling one.1)) done (one ∷ rest), sum_by-cons (λ (one : ℕ × Item). length (spelling one.1)) one rest);
  }
    where
      laid : AreLaid file 0 (done ++ one ∷ rest)
      laid = subst (λ (l : List (ℕ × Item)). AreLaid file 0 l) all (counted-laid file)

      whole : bytes_of number (counted ++ counted_in number done) ≡ sum_by (λ one. length (spelling one.1)) done
      whole = sum_by-append (part_in number) counted (counted_in number done) ∙ omega (arith, bytes-other number counted next.lower, bytes-own number done)

-- Some items of a file were taken, and the scan has the rest still to give.
pub record IsTaking (files : Image) (bits number : ℕ) (now : Scan) (old new : Index) (before after : Figures) : Type 0 where
  pub done : List (ℕ × Item)
  pub items : counted_items (bytes_in files (log_name number)) ≡ done ++ (rest_of now (bytes_in files (log_name number))).items
  pub damage : first_damage (bytes_in files (log_name number)) ≡ (rest_of now (bytes_in files (log_name number))).damage
  pub scans : IsScanOf now (bytes_in files (log_name number))
  pub taken : (counted : List Counted) → StandsForItems files bits old.entries before counted → IsNextFileOf files counted number → StandsForItems files bits new.entries after (counted ++ counted_in number done)

pub taking-none : (files : Image) (bits number : ℕ) (scan : Scan) (tree : Index) (figures : Figures) → IsScanOf scan (bytes_in files (log_name number)) → rest_of scan (bytes_in files (log_name number)) ≡ found_in (bytes_in files (log_name number)) → IsTaking files bits number scan tree tree figures figures
taking-none files bits number scan tree figures scans whole = record {
  done = [];
  items = ap (λ (f : Found). f.items) (sym whole);
  damage = ap (λ (f : Found). f.damage) (sym whole);
  scans = scans;
  taken = λ counted stands next. rw (append-nil counted) stands;
}

-- what can be read of the index so far
pub taking-records : (files : Image) (bits number : ℕ) (scan : Scan) (old new : Index) (before after : Figures) (counted : List Counted) → IsTaking files bits number scan old new before after → StandsForItems files bits old.entries before counted → IsNextFileOf files counted number → AreRecords files new.entries
taking-records files bits number scan old new before after counted taking stands next =
    records-in files bits new.entries (counted ++ counted_in number taking.done) (within-file files counted number next taking.done _ taking.items) (taking.taken counted stands next).index

-- what was given was taken, by a scan of the same bytes
pub taking-more : (files there : Image) (bits number : ℕ) (now more : Scan) (old mid new : Index) (before between after : Figures) (one : Scanned)
    → SameFiles files there
    → one.place.file ≡ number
    → IsTaking files bits number now old mid before between
    → HasGiven now more (bytes_in files (log_name number)) (Ok (Some one))
    → ((counted : List Counted) → StandsForItems there bits mid.entries between counted → IsNextItem there counted (counted_one one) → StandsForItems there bits new.entries after (counted ++ counted_one one ∷ []))
    → IsTaking files bits number more old new before after
taking-more files there bits number now more old mid new before between after one same of_file taking given takes =
    let file = bytes_in files (log_name number) in
    let item : ℕ × Item = (one.place.at, own_item one.item) in
    let rest : rest_of now file ≡ and_then item (rest_of more file) = given.given in
    let all : counted_items file ≡ taking.done ++ item ∷ (rest_of more file).items = taking.items ∙ ap (λ (found : Found). taking.done ++ found.items) rest in
    record {
      done = taking.done ++ item ∷ [];
      items = all ∙ sym (append_assoc taking.done (item ∷ []) (rest_of more file).items);
      damage = taking.damage ∙ ap (λ (found : Found). found.damage) rest;
      scans = given.scans;
      taken = λ counted stands next.
          let so_far : List Counted = counted ++ counted_in number taking.done in
          let is : counted_one one ≡ item_at number item = ap (λ n. record { number = n; at = one.place.at; item = own_item one.item }) of_file in
          let can = subst (λ (c : Counted). IsNextItem files so_far c) (sym is) (next-item files counted number next taking.done (rest_of more file).items item all) in
          let after_it = takes so_far (stands-same files there bits mid.entries between so_far same (taking.taken counted stands next)) (next-same files there so_far (counted_one one) same can) in
          subst (λ (l : List Counted). StandsForItems files bits new.entries after l) (ap (λ (c : Counted). so_far ++ c ∷ []) is ∙ items_more counted taking.done item)
          (stands-same there files bits new.entries after (so_far ++ counted_one one ∷ []) (λ name. sym (same name)) after_it);
    }
  where
    items_more : (counted : List Counted) (done : List (ℕ × Item)) (item : ℕ × Item) → (counted ++ counted_in number done) ++ item_at number item ∷ [] ≡ counted ++ counted_in number (done ++ item ∷ [])
    items_more counted done item =
        append_assoc counted (counted_in number done) (item_at number item ∷ [])
        ∙ ap (λ (l : List Counted). counted ++ l) (sym (map-append (item_at number) done (item ∷ [])))

-- all were taken
pub taking-all : (files : Image) (bits number : ℕ) (now more : Scan) (old new : Index) (before after : Figures)
    → IsTaking files bits number now old new before after
    → HasGiven now more (bytes_in files (log_name number)) (Ok None)
    → (counted : List Counted) → StandsForItems files bits old.entries before counted → IsNextFileOf files counted number → StandsForItems files bits new.entries after (counted ++ counted_in number (counted_items (bytes_in files (log_name number))))
taking-all files bits number now more old new before after taking given counted stands next =
    let items : counted_items (bytes_in files (log_name number)) ≡ taking.done = taking.items ∙ ap (λ (found : Found). taking.done ++ found.items) given.given.0 ∙ append-nil taking.done in
    subst (λ (l : List (ℕ × Item)). StandsForItems files bits new.entries after (counted ++ counted_in number l)) (sym items) (taking.taken counted stands next)

-- and the file is undamaged
pub taking-sound : (files : Image) (bits number : ℕ) (now more : Scan) (old new : Index) (before after : Figures)
    → IsTaking files bits number now old new before after
    → HasGiven now more (bytes_in files (log_name number)) (Ok None)
    → IsUndamaged (bytes_in files (log_name number))
taking-sound files bits number now more old new before after taking given = taking.damage ∙ ap (λ (found : Found). found.damage) given.given.0

-- a fault names the first damage of the file
pub taking-damage : {T : Type 0} (files : Image) (bits number : ℕ) (now : Scan) (old new : Index) (before after : Figures) (name : FileName) (answer : Result T StoreFault) (damage : Damage)
    → name ≡ log_name number
    → IsTaking files bits number now old new before after
    → NamesDamage name (rest_of now (bytes_in files (log_name number))) answer
    → IsErrOf answer (Damaged damage)
    → NamesDamageOf number (first_damage (bytes_in files (log_name number))) damage
taking-damage files bits number now old new before after name answer damage named taking names err = record {
  file = names.file damage err ∙ named;
  is = taking.damage ∙ ap (λ (found : Found). found.damage) (names.first damage err);
}
