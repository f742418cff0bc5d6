-- What images read, over the calls of the store.
use Rattle.std.proofs.Common.{◌≡◌, ◌⊎◌, ⊎_elim, inl, inr, ℕ, ◌≤◌, ◌<◌, ◌==◌, true, false, Bool, cond, List, [], ◌∷◌, ◌++◌, Option, Some, None, Contains, IsSome, refl, sym, ◌∙◌, ap, subst, arith}
use Rattle.std.proofs.Math.Nat.{eq-or-lt_of_le}
use Rattle.std.proofs.lemmas.List.{append-nil}
use Rattle.std.proofs.lemmas.List.Elements.{Contains-append_left, Contains-push, Contains-push_cases}
use Rattle.std.proofs.lemmas.Slice.Eq.{bytes_eq-Decides}
use Rattle.std.specs.Str.{bytes_eq}
use Rattle.std.specs.Prelude.{Result, IsErrOf, ◌&&◌, ◌||◌}
use Rattle.cache_model.specs.declared.entries.Change.{Change}
use Rattle.cache_model.specs.declared.entries.Change.TheVariants.{Put, Remove}
use Rattle.cache_model.specs.declared.entries.Entry.{Entry}
use Rattle.cache_model.specs.declared.faults.StoreFault.{StoreFault}
use Rattle.cache_model.specs.declared.faults.StoreFault.TheVariants as fault
use Rattle.cache_model.specs.declared.faults.Spent.{Spent}
use Rattle.cache_model.specs.declared.faults.Damage.{Damage}
use Rattle.cache_model.specs.declared.files.FileName.{FileName}
use Rattle.cache_model.specs.Files.{Image, file_in, is_name, kind_number}
use Rattle.cache_model.specs.Items.{Item, end}
use Rattle.cache_model.specs.DataFiles.{Frame, CountsFrames, IsUndamaged, placed_frames}
use Rattle.cache_model.specs.Images.{log_name, IsCounted, key_of, sequence_of, entry_by, IsNewest, IsMark, IsSound}
use Rattle.cache_disk.specs.State.{HostState, Moves, SameBut, Silent}
use Rattle.cache_disk.specs.Calls.{OnFile, AllLeft, HasFile}
use Rattle.cache_disk.proofs.Runs.{weaker}
use Rattle.data_file.specs.declared.appender.Appender.{Appender}
use Rattle.data_file.specs.Appending.{sealed, next_place}
use Rattle.data_file.proofs.Frame.{placed_of, placed-push, placed-sealed, counted_now}
use Rattle.store_trait.specs.Meaning.{Reading, Content, read_in, changed, key_of as change_key, entry_of}
use Rattle.store_trait.specs.Keeping.{IsSettled, IsOldWhole, IsNewWhole, Keeps, Opens, Leaves, SameWhere, SameContent, IsOld, IsNew}
use Rattle.store_trait.specs.Calls.{Acts}
use Rattle.soft_index.specs.declared.log_store.LogStore.{LogStore}
use Rattle.soft_index.specs.Store.{item_by, HasReading, IsNewestBy, Holds, SameOthers, ImagePair, ImageWhole, IsNamed, IsFileOf, LogStands, content_of, number, writer, owns_file, log_facts, log_means, is_spent, MakesRoom}
use Rattle.soft_index.specs.Laws.{cases_file, reading-same, sound_of}
use Rattle.soft_index.proofs.Counting.{Counts, SameCounted, apart, counted-within, counted-there, same-counted, no-contained, undamaged-counted}
use Rattle.soft_index.proofs.SingleEntries.{one_newest}

-- a key reads one thing in an image

newest_in : (image : Image) (key : List ℕ) (n a : ℕ) (item : Item) → IsNewestBy (IsCounted image) key n a item → IsNewest image key n a item
newest_in image key n a item is = record { counted = is.counted; of_key = is.of_key; newest = is.newest }

pub reading_is_single : (image : Image) (key : List ℕ) (one other : Reading) → HasReading (IsCounted image) key one → HasReading (IsCounted image) key other → one ≡ other
reading_is_single image key one other (inl none) (inl nothing) = none.1 ∙ sym nothing.1
reading_is_single image key one other (inl none) (inr some) = absurd (none.0 some.0 some.1 some.2 some.3.counted some.3.of_key)
reading_is_single image key one other (inr some) (inl none) = absurd (none.0 some.0 some.1 some.2 some.3.counted some.3.of_key)
reading_is_single image key one other (inr is) (inr also) =
    is.4
    ∙ ap (λ (i : Item). Some (entry_by i))
    (one_newest image key is.0 is.1 also.0 also.1 is.2 also.2 (newest_in image key is.0 is.1 is.2 is.3) (newest_in image key also.0 also.1 also.2 also.3))
    ∙ sym also.4

-- another data file has another name
pub other_name : (file n : ℕ) → (n ≡ file → ⊥) → is_name (log_name file) (log_name n) ≡ false
other_name file n other = ⊎_elim (λ same. absurd (other (sym same))) (λ is. is) (apart file n)

-- An image reads as the wanted content, its mark isn't below the moment, and it is sound.
pub record IsNewImage (wanted : Content) (moment : ℕ) (image : Image) : Type 0 where
  pub reads : (key : List ℕ) → HasReading (IsCounted image) key (read_in wanted key)
  pub marks : (m : ℕ) → IsMark image m → moment ≤ m
  pub sound : IsSound image

-- The other files count the same in an image, and are sound where they are here.
pub record CountsBeside (file : ℕ) (files image : Image) : Type 0 where
  pub kept : (n a : ℕ) (item : Item) → (n ≡ file → ⊥) → IsCounted files n a item → IsCounted image n a item
  pub only : (n a : ℕ) (item : Item) → (n ≡ file → ⊥) → IsCounted image n a item → IsCounted files n a item
  pub sound : (n : ℕ) (bytes : List ℕ) → (n ≡ file → ⊥) → ((k : ℕ) (other : List ℕ) → (k ≡ file → ⊥) → file_in files (log_name k) ≡ Some other → IsUndamaged other) → file_in image (log_name n) ≡ Some bytes → IsUndamaged bytes

pub same_beside : (file : ℕ) (files image : Image) → SameOthers file files image → CountsBeside file files image
same_beside file files image same = record {
  kept = λ n a item other counted. record { bytes = counted.bytes; there = same n other ∙ counted.there; counted = counted.counted };
  only = λ n a item other counted. record { bytes = counted.bytes; there = sym (same n other) ∙ counted.there; counted = counted.counted };
  sound = λ n bytes other sound is. sound n bytes other (sym (same n other) ∙ is);
}

module _ (file : ℕ) (frames : List Frame) (records : List Item) (moment : ℕ) (files image : Image) (beside : CountsBeside file files image) (has : HasFile (log_name file) (CountsFrames (sealed frames records moment)) image) where
  items : List (ℕ × Item)
  items = placed_of frames records

  last : ℕ × Item
  last = (next_place frames records, end moment)

  there : (a : ℕ) (item : Item) → Contains (placed_of frames records ++ (next_place frames records, end moment) ∷ []) (a, item) → IsCounted image file a item
  there a item within =
      counted-there file a item (sealed frames records moment) image has
      (subst (λ (l : List (ℕ × Item)). Contains l (a, item)) (sym (placed-sealed frames records moment)) within)

  kept : (n a : ℕ) (item : Item) → Holds file (placed_of frames records) files n a item → IsCounted image n a item
  kept n a item (inl here) =
      subst (λ (k : ℕ). IsCounted image k a item) (sym here.0)
      (there a item (Contains-append_left (placed_of frames records) ((next_place frames records, end moment) ∷ []) (a, item) here.1))
  kept n a item (inr other) = beside.kept n a item other.0 other.1

  only : (n a : ℕ) (item : Item) → IsCounted image n a item → Holds file (placed_of frames records) files n a item ⊎ (item ≡ end moment)
  only n a item counted = ⊎_elim here (λ other. inl (inr (other, beside.only n a item other counted))) (cases_file n file)
    where
      here : n ≡ file → Holds file (placed_of frames records) files n a item ⊎ (item ≡ end moment)
      here is =
          let now : IsCounted image file a item = subst (λ (k : ℕ). IsCounted image k a item) is counted in
          let within = counted-within file a item (sealed frames records moment) image (inr has) now in
          ⊎_elim
          (λ before. inl (inl (is, before)))
          (λ last. inr (ap (λ (p : ℕ × Item). p.1) (sym last)))
          (Contains-push_cases (placed_of frames records) (next_place frames records, end moment) (a, item)
          (subst (λ (l : List (ℕ × Item)). Contains l (a, item)) (placed-sealed frames records moment) within))

  -- the frame is sealed in this image, so it reads as all the records
  pub sealed_image : (wanted : Content) → ((key : List ℕ) → HasReading (Holds file (placed_of frames records) files) key (read_in wanted key))
      → ((n : ℕ) (bytes : List ℕ) → (n ≡ file → ⊥) → file_in files (log_name n) ≡ Some bytes → IsUndamaged bytes)
      → IsNewImage wanted moment image
  sealed_image wanted content sound = record {
    reads = λ key.
        reading-same (Holds file (placed_of frames records) files) (IsCounted image) key (read_in wanted key)
        (λ n a item of_key. kept n a item)
        (λ n a item of_key counted. ⊎_elim (λ before. before) (λ is. let no : None ≡ Some key = ap key_of (sym is) ∙ of_key in cc) (only n a item counted))
        (content key);
    marks = λ m mark. mark.bound file (next_place frames records) moment (there (next_place frames records) (end moment) (Contains-push (placed_of frames records) (next_place frames records, end moment)));
    sound = λ n bytes is. ⊎_elim
        (λ here.
        let both : Some has.bytes ≡ Some bytes = sym has.there ∙ ap (λ (k : ℕ). file_in image (log_name k)) (sym here) ∙ is in
        let one : has.bytes ≡ bytes = cc in
        subst (λ (l : List ℕ). IsUndamaged l) one (undamaged-counted (sealed frames records moment) has.bytes has.file))
        (λ other. beside.sound n bytes other sound is)
        (cases_file n file);
  }

-- the store's file in each image
pub counts_now : (log : Option Appender) (file : ℕ) (a : HostState) (frames : List Frame) (records : List Item) → IsNamed 0 log file → IsFileOf 0 log file a frames records → AllLeft a (Counts (log_name file) frames)
counts_now None file a frames records named is m left = inl (is.0, is.2 m left)
counts_now (Some log) file a frames records named is m left =
    inr (subst (λ (name : FileName). HasFile name (CountsFrames frames) m) named (counted_now log a frames records is m left))

-- each image counts what is sealed, and nothing else
module _ (S : LogStore) (a : HostState) (frames : List Frame) (records : List Item) (stands : LogStands S a frames records) (image : Image) (left : a.left a.turn image) where
  counts_left : Counts (log_name (number S)) frames image
  counts_left = counts_now (writer S) (number S) a frames records stands.named stands.log.1.current image left

  all_placed : placed_of frames [] ≡ placed_frames 2 frames
  all_placed = append-nil (placed_frames 2 frames)

  pub sealed_left : (n at : ℕ) (item : Item) → Holds (number S) (placed_of frames []) a.files n at item → IsCounted image n at item
  sealed_left n at item (inl is) =
      subst (λ (k : ℕ). IsCounted image k at item) (sym is.0) (here counts_left (subst (λ (l : List (ℕ × Item)). Contains l (at, item)) all_placed is.1))
    where
      here : (c : Counts (log_name (number S)) frames image) → Contains (placed_frames 2 frames) (at, item) → IsCounted image (number S) at item
      here (inl none) within = absurd (no-contained at item frames none.0 within)
      here (inr has) within = counted-there (number S) at item frames image has within
  sealed_left n at item (inr other) = record { bytes = other.1.bytes; there = stands.others image left n other.0 ∙ other.1.there; counted = other.1.counted }

  pub left_sealed : (n at : ℕ) (item : Item) → IsCounted image n at item → Holds (number S) (placed_of frames []) a.files n at item
  left_sealed n at item counted = ⊎_elim
      (λ is. inl (is, subst (λ (l : List (ℕ × Item)). Contains l (at, item)) (sym all_placed) (counted-within (number S) at item frames image counts_left (subst (λ (k : ℕ). IsCounted image k at item) is counted))))
      (λ other. inr (other, record { bytes = counted.bytes; there = sym (stands.others image left n other) ∙ counted.there; counted = counted.counted }))
      (cases_file n (number S))

-- where nothing waits, each image reads as the content
pub whole_image : (S : LogStore) (a : HostState) (frames : List Frame) → LogStands S a frames [] → (image : Image) → a.left a.turn image → (key : List ℕ) → HasReading (IsCounted image) key (read_in (content_of S a.files) key)
whole_image S a frames stands image left key =
    reading-same (Holds (number S) (placed_of frames []) a.files) (IsCounted image) key (read_in (content_of S a.files) key)
    (λ n at item of_key. sealed_left S a frames [] stands image left n at item)
    (λ n at item of_key counted. left_sealed S a frames [] stands image left n at item counted)
    (stands.content key)

-- after that only the content is possible
pub settled_now : (S : LogStore) (a : HostState) (frames : List Frame) (records : List Item) → records ≡ [] → LogStands S a frames records → IsSettled (log_facts S) (log_means S a) a.turn
settled_now S a frames records none stands = record {
  each = λ key r m. ⊎_elim
      (λ pair. inl (reading_is_single pair.image key r (read_in (content_of S a.files) key) pair.reads (reads pair.image pair.left key)))
      (λ here. inl here.2);
  whole = λ c m. ⊎_elim
      (λ pair key. inl (reading_is_single pair.image key (read_in c key) (read_in (content_of S a.files) key) (pair.reads key) (reads pair.image pair.left key)))
      (λ here key. inl (here.2 key));
}
  where
    reads : (image : Image) → a.left a.turn image → (key : List ℕ) → HasReading (IsCounted image) key (read_in (content_of S a.files) key)
    reads image left key = whole_image S a frames (subst (λ (l : List Item). LogStands S a frames l) none stands) image left key

-- one record more

pub item_key : (seq : ℕ) (change : Change) → key_of (item_by seq change) ≡ Some (change_key change)
item_key seq (Put key entry) = refl
item_key seq (Remove key) = refl

pub item_seq : (seq : ℕ) (change : Change) → sequence_of (item_by seq change) ≡ seq
item_seq seq (Put key entry) = refl
item_seq seq (Remove key) = refl

item_entry : (seq : ℕ) (change : Change) → entry_by (item_by seq change) ≡ entry_of change
item_entry seq (Put key entry) = refl
item_entry seq (Remove key) = refl

pub item_no_end : (seq m : ℕ) (change : Change) → end m ≡ item_by seq change → ⊥
item_no_end seq m (Put key entry) is = cc
item_no_end seq m (Remove key) is = cc

module _ (file : ℕ) (frames : List Frame) (records : List Item) (files : Image) (one : Item) where
  abbrev before : ℕ → ℕ → Item → Type 0
  before = Holds file (placed_of frames records) files

  abbrev after : ℕ → ℕ → Item → Type 0
  after = Holds file (placed_of frames (records ++ one ∷ [])) files

  more : placed_of frames (records ++ one ∷ []) ≡ placed_of frames records ++ (next_place frames records, one) ∷ []
  more = placed-push frames records one

  pub holds_more : (n a : ℕ) (item : Item) → before n a item → after n a item
  holds_more n a item (inl here) =
      inl (
        here.0,
        subst (λ (l : List (ℕ × Item)). Contains l (a, item)) (sym more) (Contains-append_left (placed_of frames records) ((next_place frames records, one) ∷ []) (a, item) here.1),
      )
  holds_more n a item (inr other) = inr other

  pub holds_only : (n a : ℕ) (item : Item) → after n a item → before n a item ⊎ ((n ≡ file) × (a ≡ next_place frames records) × (item ≡ one))
  holds_only n a item (inl here) =
      ⊎_elim
      (λ was. inl (inl (here.0, was)))
      (λ is. inr (here.0, ap (λ (p : ℕ × Item). p.0) (sym is), ap (λ (p : ℕ × Item). p.1) (sym is)))
      (Contains-push_cases (placed_of frames records) (next_place frames records, one) (a, item) (subst (λ (l : List (ℕ × Item)). Contains l (a, item)) more here.1))
  holds_only n a item (inr other) = inl (inr other)

  pub holds_new : after file (next_place frames records) one
  holds_new =
      inl (refl, subst (λ (l : List (ℕ × Item)). Contains l (next_place frames records, one)) (sym more) (Contains-push (placed_of frames records) (next_place frames records, one)))

  -- each sequence number is still below this one
  pub above_more : (bound : ℕ) → sequence_of one < bound
      → ((n a : ℕ) (item : Item) (key : List ℕ) → before n a item → key_of item ≡ Some key → sequence_of item < bound)
      → (n a : ℕ) (item : Item) (key : List ℕ) → after n a item → key_of item ≡ Some key → sequence_of item < bound
  above_more bound below above n a item key counted of_key =
      ⊎_elim
      (λ was. above n a item key was of_key)
      (λ is. omega (arith, ap sequence_of is.2, below))
      (holds_only n a item counted)

  -- and no end of a frame is later than this moment
  pub mark_more : (latest : ℕ) → ((m : ℕ) → end m ≡ one → ⊥) → ((n a m : ℕ) → before n a (end m) → m ≤ latest) → (n a m : ℕ) → after n a (end m) → m ≤ latest
  mark_more latest no_end mark n a m counted = ⊎_elim (λ was. mark n a m was) (λ is. absurd (no_end m is.2)) (holds_only n a (end m) counted)

-- the record of a change

module _ (file next : ℕ) (frames : List Frame) (records : List Item) (files : Image) (change : Change) where
  abbrev kept_by : ℕ → ℕ → Item → Type 0
  kept_by = Holds file (placed_of frames records) files

  abbrev changed_by : ℕ → ℕ → Item → Type 0
  changed_by = Holds file (placed_of frames (records ++ item_by next change ∷ [])) files

  pub reading_more : ((n a : ℕ) (item : Item) (key : List ℕ) → kept_by n a item → key_of item ≡ Some key → sequence_of item < next)
      → (content : Content) (key : List ℕ) → HasReading kept_by key (read_in content key) → HasReading changed_by key (read_in (changed change content) key)
  reading_more above content key reads = by_test (bytes_eq (change_key change) key) refl
    where
      one : Item
      one = item_by next change

      by_test : (b : Bool) → bytes_eq (change_key change) key ≡ b → HasReading changed_by key (read_in (changed change content) key)
      by_test true is =
          let same : change_key change ≡ key = (bytes_eq-Decides (change_key change) key).0 is in
          inr (
            file,
            next_place frames records,
            item_by next change,
            record {
              counted = holds_new file frames records files one;
              of_key = item_key next change ∙ ap (λ (k : List ℕ). Some k) same;
              newest = λ n a other counted of_key.
                  ⊎_elim
                  (λ was. inl (omega (arith, above n a other key was of_key, item_seq next change)))
                  (λ one. inr (ap sequence_of one.2, inr (one.0, omega (arith, one.1))))
                  (holds_only file frames records files one n a other counted);
            },
            ap (λ (b : Bool). cond b (Some (entry_of change)) (read_in content key)) is ∙ ap (λ (e : Option Entry). Some e) (sym (item_entry next change)),
          )
      by_test false is =
          subst (λ (r : Reading). HasReading changed_by key r) (sym (ap (λ (b : Bool). cond b (Some (entry_of change)) (read_in content key)) is))
          (reading-same kept_by changed_by key (read_in content key)
          (λ n a item of_key was. holds_more file frames records files one n a item was)
          (λ n a item of_key counted.
          ⊎_elim
          (λ was. was)
          (λ is_one.
          let same : Some (change_key change) ≡ Some key = sym (item_key next change) ∙ ap key_of (sym is_one.2) ∙ of_key in
          let keys : change_key change ≡ key = cc in
          let no : bytes_eq (change_key change) key ≡ true = (bytes_eq-Decides (change_key change) key).1 keys in
          let never : false ≡ true = sym is ∙ no in
          cc)
          (holds_only file frames records files one n a item counted))
          reads)

-- what the images of a run read

-- An image reads and is marked as one that a crash may leave now, and is sound where that one is.
pub record IsAsBefore (a : HostState) (image : Image) : Type 0 where
  pub before : Image
  pub left : a.left a.turn before
  pub sound : IsSound before → IsSound image
  pub reads : (key : List ℕ) (r : Reading) → HasReading (IsCounted image) key r → HasReading (IsCounted before) key r
  pub marks : (m : ℕ) → IsMark image m → IsMark before m

-- an image that counts what one does which a crash may leave now
pub counts_before : (a : HostState) (before image : Image) → a.left a.turn before → SameCounted before image → IsAsBefore a image
counts_before a before image left same = record {
  before = before;
  left = left;
  sound = same.sound;
  reads = λ key r. reading-same (IsCounted image) (IsCounted before) key r (λ n at item of_key. same.only n at item) (λ n at item of_key. same.kept n at item);
  marks = λ m mark. record {
    bound = λ n at k counted. mark.bound n at k (same.kept n at (end k) counted);
    reached = ⊎_elim (λ none. inl none) (λ some. inr (some.0, some.1, same.only some.0 some.1 (end m) some.2)) mark.reached;
  };
}

-- a run over one data file alone
module _ (a : HostState) (file : ℕ) (frames : List Frame) (moment : ℕ) (wanted : Content) (P Q : List ℕ → Type 0)
    (counts : AllLeft a (Counts (log_name file) frames))
    (cases : (bytes : List ℕ) → P bytes → CountsFrames frames bytes ⊎ Q bytes)
    (new : (d c : Image) (bytes : List ℕ) → a.left a.turn d → SameOthers file d c → file_in c (log_name file) ≡ Some bytes → Q bytes → IsNewImage wanted moment c) where
  pub file_since : (d c : Image) → a.left a.turn d → OnFile (log_name file) P d c → IsAsBefore a c ⊎ IsNewImage wanted moment c
  file_since d c left step = from (file_in c (log_name file)) refl
    where
      others : SameOthers file d c
      others n other = step.others (log_name n) (other_name file n other)

      still : (k : Counts (log_name file) frames d) → file_in c (log_name file) ≡ None → Counts (log_name file) frames c
      still (inl none) is = inl (none.0, is)
      still (inr has) is =
          let some = step.stays (subst (λ (found : Option (List ℕ)). IsSome found) (sym has.there) refl) in
          let no : false ≡ true = subst (λ (found : Option (List ℕ)). IsSome found) is some in
          cc

      from : (found : Option (List ℕ)) → file_in c (log_name file) ≡ found → IsAsBefore a c ⊎ IsNewImage wanted moment c
      from None is =
          inl (counts_before a d c left
          (same-counted file frames d c (counts d left)
          (record { others = step.others; stays = step.stays; file = λ bytes there. let no : None ≡ Some bytes = sym is ∙ there in cc })
          (still (counts d left) is)))
      from (Some bytes) is =
          ⊎_elim
          (λ old. inl (counts_before a d c left
          (same-counted file frames d c (counts d left)
          (record {
            others = step.others;
            stays = step.stays;
            file = λ other there.
                let both : Some bytes ≡ Some other = sym is ∙ there in
                let one : bytes ≡ other = cc in
                subst (λ (l : List ℕ). CountsFrames frames l) one old;
          })
          (inr (record { bytes = bytes; there = is; file = old })))))
          (λ q. inr (new d c bytes left others is q))
          (cases bytes (step.file bytes is))

-- a run over the current file alone
module _ (S : LogStore) (a : HostState) (frames : List Frame) (records : List Item) (moment : ℕ) (wanted : Content) (P Q : List ℕ → Type 0)
    (stands : LogStands S a frames records)
    (cases : (bytes : List ℕ) → P bytes → CountsFrames frames bytes ⊎ Q bytes)
    (new : (image : Image) (bytes : List ℕ) → SameOthers (number S) a.files image → file_in image (log_name (number S)) ≡ Some bytes → Q bytes → IsNewImage wanted moment image) where
  pub step_since : (d c : Image) → a.left a.turn d → OnFile (log_name (number S)) P d c → IsAsBefore a c ⊎ IsNewImage wanted moment c
  step_since =
      file_since a (number S) frames moment wanted P Q (counts_now (writer S) (number S) a frames records stands.named stands.log.1.current) cases
      (λ d c bytes left same there q. new c bytes (λ n other. same n other ∙ stands.others d left n other) there q)

-- a run, of which each step leaves an image that reads as one did before, or a new one
module _ (S : LogStore) (a b : HostState) (frames : List Frame) (records : List Item) (moment : ℕ) (wanted : Content) (step : Image → Image → Type 0)
    (stands : LogStands S a frames records)
    (moves : Moves a b step)
    (since : (d c : Image) → a.left a.turn d → step d c → IsAsBefore a c ⊎ IsNewImage wanted moment c) where
  pub image_since : (t : ℕ) (c : Image) → a.turn ≤ t → t ≤ b.turn → b.left t c → IsAsBefore a c ⊎ IsNewImage wanted moment c
  image_since t c after until left =
      ⊎_elim
      (λ same. inl (record {
        before = c;
        left = moves.past a.turn c (omega arith) (subst (λ (n : ℕ). b.left n c) (sym same) left);
        sound = λ sound. sound;
        reads = λ key r reads. reads;
        marks = λ m mark. mark;
      }))
      (λ later. let d = moves.now t c later until left in since d.0 c d.1 d.2)
      (eq-or-lt_of_le after)

  pub pair_since : (t : ℕ) (key : List ℕ) (r : Reading) (m : ℕ) → a.turn ≤ t → t ≤ b.turn → ImagePair b t key r m
      → IsOld ⊥ ((log_means S a).may a.turn key) r m ⊎ IsNew ⊥ moment (read_in wanted key) r m
  pair_since t key r m after until pair =
      ⊎_elim
      (λ was. inl record {
        before = r;
        least = m;
        possible = inl record { image = was.before; left = was.left; reads = was.reads key r pair.reads; marked = was.marks m pair.marked };
        no_later = omega arith;
        alike = inl refl;
      })
      (λ is. inr record { late = is.marks m pair.marked; alike = inl (reading_is_single pair.image key r (read_in wanted key) pair.reads (is.reads key)) })
      (image_since t pair.image after until pair.left)

  pub whole_since : (t : ℕ) (c : Content) (m : ℕ) → a.turn ≤ t → t ≤ b.turn → ImageWhole b t c m
      → IsOldWhole (λ key. ⊥) ((log_means S a).whole a.turn) c m ⊎ IsNewWhole (λ key. ⊥) moment wanted c m
  whole_since t c m after until pair =
      ⊎_elim
      (λ was. inl record {
        before = c;
        least = m;
        possible = inl record { image = was.before; left = was.left; reads = λ key. was.reads key (read_in c key) (pair.reads key); marked = was.marks m pair.marked };
        no_later = omega arith;
        alike = λ key. inl refl;
      })
      (λ is. inr record { late = is.marks m pair.marked; alike = λ key. inl (reading_is_single pair.image key (read_in c key) (read_in wanted key) (pair.reads key) (is.reads key)) })
      (image_since t pair.image after until pair.left)

  pub run_opens : (T : LogStore) → Opens a.turn b.turn (log_means S a) (log_means T b)
  run_opens T = record {
    past = λ t before opens image left. opens image (moves.past t image (omega (arith, before)) left);
    since = λ is t after until image left.
        ⊎_elim (λ was. was.sound (sound_of S a frames records stands was.before was.left)) (λ new. new.sound) (image_since t image after until left);
  }

-- a file that the store doesn't own has another name than its file
not_owned : (log index main rest : Bool) → (log || index) && main ≡ false → (log && main) && rest ≡ false
not_owned true index main rest is = ap (λ (b : Bool). b && rest) is
not_owned false index main rest is = refl

pub foreign_name : (file : ℕ) (name : FileName) → owns_file name ≡ false → is_name (log_name file) name ≡ false
foreign_name file name other = not_owned (1 == kind_number name.kind) (2 == kind_number name.kind) (0 == name.store) (file == name.id) other

pub leaves_others : (file : ℕ) (a b : HostState) (P : List ℕ → Type 0) → SameBut (log_name file) a.files b.files → Moves a b (OnFile (log_name file) P) → Leaves owns_file false a b
leaves_others file a b P same moves = record {
  files = λ q other. same q (foreign_name file q other);
  images = weaker a b (OnFile (log_name file) P) (SameWhere owns_file false) moves (λ d m left step q other. step.others q (foreign_name file q other));
}

-- calls

-- a pair that reads the content that the store had was possible when the call began
old_pair : (S : LogStore) (a : HostState) (moment : ℕ) (key : List ℕ) (r : Reading) (m : ℕ) → S.parts.spoilt ≡ false → S.latest ≤ moment → IsNew ⊥ moment (read_in (content_of S a.files) key) r m → IsOld ⊥ ((log_means S a).may a.turn key) r m
old_pair S a moment key r m sound late new = record {
  before = read_in (content_of S a.files) key;
  least = m;
  possible = inr (sound, refl, refl, omega (arith, late, new.late));
  no_later = omega arith;
  alike = new.alike;
}

old_whole : (S : LogStore) (a : HostState) (moment : ℕ) (c : Content) (m : ℕ) → S.parts.spoilt ≡ false → S.latest ≤ moment → IsNewWhole (λ key. ⊥) moment (content_of S a.files) c m → IsOldWhole (λ key. ⊥) ((log_means S a).whole a.turn) c m
old_whole S a moment c m sound late new = record {
  before = content_of S a.files;
  least = m;
  possible = inr (sound, refl, λ key. refl, omega (arith, late, new.late));
  no_later = omega arith;
  alike = new.alike;
}

-- A call of which each step leaves an image that reads as one did before, or one that reads as the content did. After
-- it the store has the wanted content, or the one that it had.
module _ (S T : LogStore) (a b : HostState) (frames : List Frame) (records : List Item) (moment : ℕ) (wanted : Content) (step : Image → Image → Type 0)
    (stands : LogStands S a frames records)
    (moves : Moves a b step)
    (since : (d c : Image) → a.left a.turn d → step d c → IsAsBefore a c ⊎ IsNewImage (content_of S a.files) moment c)
    (sound : S.parts.spoilt ≡ false) (late : S.latest ≤ moment) (latest : T.latest ≡ moment)
    (content : T.parts.spoilt ≡ false → SameContent wanted (content_of T b.files) ⊎ SameContent (content_of S a.files) (content_of T b.files)) where
  content_since : (key : List ℕ) (r : Reading) (m : ℕ) → T.parts.spoilt ≡ false → r ≡ read_in (content_of T b.files) key → T.latest ≤ m
      → IsOld ⊥ ((log_means S a).may a.turn key) r m ⊎ IsNew ⊥ moment (read_in wanted key) r m
  content_since key r m unspoilt reads after =
      ⊎_elim
      (λ same. inr record { late = omega (arith, latest, after); alike = inl (reads ∙ same key) })
      (λ kept. inl (old_pair S a moment key r m sound late (record { late = omega (arith, latest, after); alike = inl (reads ∙ kept key) })))
      (content unspoilt)

  content_whole : (c : Content) (m : ℕ) → T.parts.spoilt ≡ false → SameContent (content_of T b.files) c → T.latest ≤ m
      → IsOldWhole (λ key. ⊥) ((log_means S a).whole a.turn) c m ⊎ IsNewWhole (λ key. ⊥) moment wanted c m
  content_whole c m unspoilt reads after =
      ⊎_elim
      (λ same. inr record { late = omega (arith, latest, after); alike = λ key. inl (reads key ∙ same key) })
      (λ kept. inl (old_whole S a moment c m sound late (record { late = omega (arith, latest, after); alike = λ key. inl (reads key ∙ kept key) })))
      (content unspoilt)

  pub call_keeps : Keeps (log_facts S) a.turn b.turn moment (log_means S a) (log_means T b) wanted
  call_keeps = record {
    past = λ t key r m before.
        ⊎_elim
        (λ pair. inl record { image = pair.image; left = moves.past t pair.image (omega (arith, before)) pair.left; reads = pair.reads; marked = pair.marked })
        (λ here. absurd (omega (arith, here.1, before, moves.later)));
    since = λ t key r m after until.
        ⊎_elim
        (λ pair. ⊎_elim (λ old. inl old) (λ new. inl (old_pair S a moment key r m sound late new)) (pair_since S a b frames records moment (content_of S a.files) step stands moves since t key r m after until pair))
        (λ here. content_since key r m here.0 here.2 here.3);
    past_whole = λ t c m before.
        ⊎_elim
        (λ pair. inl record { image = pair.image; left = moves.past t pair.image (omega (arith, before)) pair.left; reads = pair.reads; marked = pair.marked })
        (λ here. absurd (omega (arith, here.1, before, moves.later)));
    since_whole = λ ordered t c m after until.
        ⊎_elim
        (λ pair. ⊎_elim (λ old. inl old) (λ new. inl (old_whole S a moment c m sound late new)) (whole_since S a b frames records moment (content_of S a.files) step stands moves since t c m after until pair))
        (λ here. content_whole c m here.0 here.2 here.3);
  }

  pub call_acts : {R : Type 0} (result : Result R StoreFault)
      → Leaves owns_file false a b
      → Silent a b
      → (T.parts.spoilt ≡ false → (fs : List Frame) × (rs : List Item) × LogStands T b fs rs)
      → ((d : Damage) → IsErrOf result (fault.Damaged d) → ⊥)
      → ((s : Spent) → IsErrOf result (fault.Spent s) → is_spent T s)
      → (IsErrOf result fault.Memory → T.parts.spoilt ≡ false → SameContent (content_of S a.files) (content_of T b.files) × MakesRoom S.parts.requests.limit (log_facts S).parts (log_facts T).parts)
      → Acts (log_facts S) (log_facts T) (log_means S a) (log_means T b) a b moment wanted result
  call_acts result others silent standing damaged spent refused = record {
    stands = standing;
    others = others;
    silent = silent;
    keeps = call_keeps;
    opens = run_opens S a b frames records moment (content_of S a.files) step stands moves since T;
    sound = λ is. is;
    undamaged = λ is d err. damaged d err;
    spent = spent;
    refused = λ err unspoilt key. inl ((refused err unspoilt).0 key);
    room = λ err unspoilt. (refused err unspoilt).1;
  }
