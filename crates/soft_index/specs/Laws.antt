-- Laws of what the store stands for.
use Rattle.std.proofs.Common.{◌≡◌, ◌⊎◌, ◌==◌, Bool, cond, ⊎_elim, inl, inr, ℕ, ◌≤◌, true, false, List, [], get_or, length, Contains, Option, Some, None, IsSome, refl, sym, ◌∙◌, ap, subst, arith}
use Rattle.std.specs.Prelude.{◌↔◌, unwrap_or}
use Rattle.std.proofs.Math.Nat.{eq-or-lt_of_le}
use Rattle.cache_model.specs.Files.{Image, bytes_in, file_in}
use Rattle.cache_model.specs.Items.{Item, end}
use Rattle.cache_model.specs.DataFiles.{Frame, Found, IsUndamaged, counted_items}
use Rattle.cache_model.specs.Images.{log_name, IsCounted, IsMark, key_of, IsSound}
use Rattle.cache_disk.specs.State.{HostState}
use Rattle.cache_disk.specs.Calls.{AllLeft}
use Rattle.cache_disk.proofs.Runs.{left_still}
use Rattle.data_file.specs.declared.appender.Appender.{Appender}
use Rattle.data_file.proofs.Frame.{placed_of, counted_now}
use Rattle.file_stats.specs.Figures.{numbers_of}
use Rattle.compactor.specs.declared.parts.Parts.{Parts}
use Rattle.compactor.specs.Figuring.{StandApart, item_bytes, items_of, live_in}
use Rattle.compactor.proofs.Rows.{rows_same}
use Rattle.compactor.proofs.RowsSame.{indexed_same}
use Rattle.store_trait.specs.Meaning.{Content, Reading, read_in}
use Rattle.store_trait.specs.Keeping.{HoldsNow, Carries, Leaves, SameWhere}
use Rattle.soft_index.specs.declared.log_store.LogStore.{LogStore}
use Rattle.soft_index.specs.Counted.{AreCounted}
use Rattle.soft_index.specs.Store.{HasReading, Holds, SameOthers, IsNamed, IsFileOf, LogStands, content_of, main_files, number, writer, owns_file, log_facts, log_means}
use Rattle.append_log.proofs.Holding.{holds_beside}
use Rattle.std.proofs.lemmas.Bool.Decides.{nat_tests}

-- the same file, or another one
pub cases_file : (n m : ℕ) → (n ≡ m) ⊎ (n ≡ m → ⊥)
cases_file n m = by_test (n == m) refl
  where
    by_test : (b : Bool) → (n == m) ≡ b → (n ≡ m) ⊎ (n ≡ m → ⊥)
    by_test true is = inl (grind (arith, nat_tests))
    by_test false is = inr (λ same. grind (arith, nat_tests))

-- what counts goes along where the other files are the same
pub holds-there : (file : ℕ) (items : List (ℕ × Item)) (a b : Image) → SameOthers file a b → (n at : ℕ) (item : Item) → Holds file items a n at item → Holds file items b n at item
holds-there file items a b same n at item (inl here) = inl here
holds-there file items a b same n at item (inr other) = inr (other.0, record { bytes = other.1.bytes; there = same n other.0 ∙ other.1.there; counted = other.1.counted })

-- a key reads the same where the same records of it count
pub reading-same : (p q : ℕ → ℕ → Item → Type 0) (key : List ℕ) (reading : Reading)
    → ((n a : ℕ) (item : Item) → key_of item ≡ Some key → p n a item → q n a item)
    → ((n a : ℕ) (item : Item) → key_of item ≡ Some key → q n a item → p n a item)
    → HasReading p key reading → HasReading q key reading
reading-same p q key reading kept only (inl none) = inl (λ n a item counted of_key. none.0 n a item (only n a item of_key counted) of_key, none.1)
reading-same p q key reading kept only (inr some) =
    inr (
      some.0,
      some.1,
      some.2,
      record {
        counted = kept some.0 some.1 some.2 some.3.of_key some.3.counted;
        of_key = some.3.of_key;
        newest = λ n a other counted of_key. some.3.newest n a other (only n a other of_key counted) of_key;
      },
      some.4,
    )

-- the statistics are those of files that read alike
pub counted_files : (file : ℕ) (items : List (ℕ × Item)) (a b : Image) (parts : Parts) → ((n : ℕ) → file_in b (log_name n) ≡ file_in a (log_name n))
    → AreCounted (record { number = file; items = items; files = a }) parts → AreCounted (record { number = file; items = items; files = b }) parts
counted_files file items a b parts same counted = record {
  ascend = counted.ascend;
  each = λ n. subst (λ (f : Option (List ℕ)). Contains (numbers_of parts.stats.rows) n ↔ IsSome f) (sym (same n)) (counted.each n);
  sizes = λ k d within. counted.sizes k d within ∙ ap length (sym (bytes (get_or parts.stats.rows k d).number));
  live = record {
    rows = λ k d within.
        let row = get_or parts.stats.rows k d in
        let was = counted.live.rows k d within in
        record {
          live = was.live ∙ ap (λ (l : List (ℕ × Item)). live_in parts.tree row.number l) (sym (held row.number));
          fits = subst (λ (l : List (ℕ × Item)). item_bytes l ≤ row.size) (sym (held row.number)) was.fits;
        };
    apart = λ n. subst StandApart (sym (held n)) (counted.live.apart n);
    listed = λ n at item key counts of_key. counted.live.listed n at item key (holds-there file items b a (λ m other. sym (same m)) n at item counts) of_key;
  };
}
  where
    bytes : (n : ℕ) → bytes_in b (log_name n) ≡ bytes_in a (log_name n)
    bytes n = ap (λ (f : Option (List ℕ)). unwrap_or f []) (same n)

    held : (n : ℕ) → items_of (record { number = file; items = items; files = b }) n ≡ items_of (record { number = file; items = items; files = a }) n
    held n = ap (λ (l : List ℕ). cond (n == file) items (counted_items l)) (bytes n)

-- each image is sound
pub sound_of : (S : LogStore) (a : HostState) (frames : List Frame) (records : List Item) → LogStands S a frames records → AllLeft a IsSound
sound_of S a frames records stands image left n bytes there = ⊎_elim same other (cases_file n (number S))
  where
    other : (n ≡ (number S) → ⊥) → IsUndamaged bytes
    other apart = stands.sound n bytes apart (sym (stands.others image left n apart) ∙ there)

    in_log : (log : Option Appender) → IsNamed 0 log (number S) → IsFileOf 0 log (number S) a frames records → file_in image (log_name (number S)) ≡ Some bytes → IsUndamaged bytes
    in_log None named file is = let no : None ≡ Some bytes = sym (file.2 image left) ∙ is in cc
    in_log (Some log) named file is =
        let has = counted_now log a frames records file image left in
        let both : Some has.bytes ≡ Some bytes = sym has.there ∙ ap (λ name. file_in image name) named ∙ is in
        let one : has.bytes ≡ bytes = cc in
        subst (λ (l : List ℕ). IsUndamaged l) one (ap (λ (f : Found). f.damage) has.file)

    same : n ≡ (number S) → IsUndamaged bytes
    same is = in_log (writer S) stands.named stands.log.1.current (ap (λ k. file_in image (log_name k)) (sym is) ∙ there)

pub log_holds : (S : LogStore) (a : HostState) (frames : List Frame) (records : List Item) → S.parts.spoilt ≡ false → LogStands S a frames records → HoldsNow (log_facts S) (log_means S a) a.turn
log_holds S a frames records sound stands = record {
  each = λ key m late. inr (sound, refl, refl, late);
  whole = λ m late. inr (sound, refl, λ key. refl, late);
  fits = λ c m. ⊎_elim
      (λ pair key. inl record { image = pair.image; left = pair.left; reads = pair.reads key; marked = pair.marked })
      (λ here key. inr (here.0, here.1, here.2 key, here.3));
  opens = λ is image left. sound_of S a frames records stands image left;
}

-- the other files are those that are left alone
others_same : (file : ℕ) (a b : Image) → SameWhere owns_file true a b → SameOthers file a b
others_same file a b same n apart = same (log_name n) refl

others_back : (file : ℕ) (a b : Image) → SameOthers file a b → SameOthers file b a
others_back file a b same n apart = sym (same n apart)

-- and the content stays
same_content : (S : LogStore) (a b : HostState) → Leaves owns_file true a b → content_of S b.files ≡ content_of S a.files
same_content S a b leaves = rows_same a.files b.files S.parts.table S.parts.tree (λ n. leaves.files (log_name n) refl)

pub stands_there : (S : LogStore) (a b : HostState) (frames : List Frame) (records : List Item) → Leaves owns_file true a b → LogStands S a frames records → LogStands S b frames records
stands_there S a b frames records leaves stands =
    let same = others_same (number S) a.files b.files leaves.files in
    let back = others_back (number S) a.files b.files same in
    let items = placed_of frames records in
    let same_log = λ (n : ℕ). leaves.files (log_name n) refl in
    record {
      main = stands.main;
      log = (
        stands.log.0,
        holds_beside (main_files S) a b (record { closed = stands.log.0; frames = frames; records = records }) (SameWhere owns_file true) stands.named same_log leaves.images (λ n d m step. step (log_name n) refl) stands.log.1,
      );
      named = stands.named;
      others = left_still a b (SameWhere owns_file true) (λ image. SameOthers (number S) b.files image) leaves.images
          (λ image left n apart. stands.others image left n apart ∙ sym (same n apart))
          (λ d m is step n apart. step (log_name n) refl ∙ is n apart);
      sound = λ n bytes apart there. stands.sound n bytes apart (sym (same n apart) ∙ there);
      indexed = indexed_same (Holds (number S) items a.files) (Holds (number S) items b.files) S.parts.table S.parts.tree S.parts.requests.waiting
          (record { kept = λ n at item key holds of_key. holds-there (number S) items a.files b.files same n at item holds; only = λ n at item key holds of_key. holds-there (number S) items b.files a.files back n at item holds })
          stands.indexed;
      content = λ key. reading-same (Holds (number S) items a.files) (Holds (number S) items b.files) key (read_in (content_of S b.files) key)
          (λ n at item of_key. holds-there (number S) items a.files b.files same n at item)
          (λ n at item of_key. holds-there (number S) items b.files a.files back n at item)
          (subst (λ (c : Content). HasReading (Holds (number S) items a.files) key (read_in c key)) (sym (same_content S a b leaves)) (stands.content key));
      counted = counted_files (number S) items a.files b.files S.parts same_log stands.counted;
      above = λ n at item key counted. stands.above n at item key (holds-there (number S) items b.files a.files back n at item counted);
      mark = λ n at m counted. stands.mark n at m (holds-there (number S) items b.files a.files back n at (end m) counted);
    }

-- what an image reads goes along
counted_there : (a b : Image) → SameWhere owns_file true a b → (n at : ℕ) (item : Item) → IsCounted a n at item → IsCounted b n at item
counted_there a b same n at item counted = record { bytes = counted.bytes; there = same (log_name n) refl ∙ counted.there; counted = counted.counted }

where_back : (a b : Image) → SameWhere owns_file true a b → SameWhere owns_file true b a
where_back a b same name owns = sym (same name owns)

pub reading_back : (a b : Image) (key : List ℕ) (reading : Reading) → SameWhere owns_file true a b → HasReading (IsCounted b) key reading → HasReading (IsCounted a) key reading
reading_back a b key reading same =
    reading-same (IsCounted b) (IsCounted a) key reading
    (λ n at item of_key. counted_there b a (where_back a b same) n at item)
    (λ n at item of_key. counted_there a b same n at item)

mark_back : (a b : Image) (mark : ℕ) → SameWhere owns_file true a b → IsMark b mark → IsMark a mark
mark_back a b mark same is = record {
  bound = λ n at m counted. is.bound n at m (counted_there a b same n at (end m) counted);
  reached = ⊎_elim (λ none. inl none) (λ some. inr (some.0, some.1, counted_there b a (where_back a b same) some.0 some.1 (end mark) some.2)) is.reached;
}

pub log_carries : (S : LogStore) (a b : HostState) → Leaves (log_facts S).owns true a b → Carries a.turn b.turn (log_means S a) (log_means S b)
log_carries S a b leaves = record {
  stands = λ stands. (stands.0, stands.1, stands_there S a b stands.0 stands.1 leaves stands.2);
  content = λ key. ap (λ (c : Content). read_in c key) same;
  past = λ t key r m before. ⊎_elim (λ pair. inl record { image = pair.image; left = leaves.images.past t pair.image (omega (arith, before)) pair.left; reads = pair.reads; marked = pair.marked })
      (λ here. absurd (omega (arith, here.1, before, leaves.images.later)));
  since = λ t key r m after before. ⊎_elim
      (λ pair. let d = entry t pair.image after before pair.left in inl record { image = d.0; left = d.1; reads = reading_back d.0 pair.image key r d.2 pair.reads; marked = mark_back d.0 pair.image m d.2 pair.marked })
      (λ here. inr (here.0, refl, here.2 ∙ ap (λ (c : Content). read_in c key) same, here.3));
  past_whole = λ t c m before. ⊎_elim (λ pair. inl record { image = pair.image; left = leaves.images.past t pair.image (omega (arith, before)) pair.left; reads = pair.reads; marked = pair.marked })
      (λ here. absurd (omega (arith, here.1, before, leaves.images.later)));
  since_whole = λ t c m after before. ⊎_elim
      (λ pair. let d = entry t pair.image after before pair.left in inl record { image = d.0; left = d.1; reads = λ key. reading_back d.0 pair.image key (read_in c key) d.2 (pair.reads key); marked = mark_back d.0 pair.image m d.2 pair.marked })
      (λ here. inr (here.0, refl, λ key. here.2 key ∙ ap (λ (c : Content). read_in c key) same, here.3));
  opened = λ t before opens image left. opens image (leaves.images.past t image (omega (arith, before)) left);
  opens = λ t after before opens image left n bytes there. let d = entry t image after before left in opens d.0 d.1 n bytes (sym (d.2 (log_name n) refl) ∙ there);
  sound = λ is. is;
  spent = λ s. (λ x. x, λ x. x);
  most = λ key. refl;
  fetches = λ key. (λ x. x, λ x. x);
}
  where
    same : content_of S b.files ≡ content_of S a.files
    same = same_content S a b leaves

    entry : (t : ℕ) (c : Image) → a.turn ≤ t → t ≤ b.turn → b.left t c → (d : Image) × a.left a.turn d × SameWhere owns_file true d c
    entry t c after before left =
        ⊎_elim
        (λ same. (c, leaves.images.past a.turn c (omega arith) (subst (λ (n : ℕ). b.left n c) (sym same) left), λ name owns. refl))
        (λ later. leaves.images.now t c later before left)
        (eq-or-lt_of_le after)
