-- A compaction goes on from turn to turn.
use Rattle.std.proofs.Common.{◌≡◌, ⊎_elim, inl, inr, ℕ, ◌≤◌, true, false, List, [], ◌∷◌, ◌++◌, Contains, Option, Some, None, IsSome, refl, sym, ◌∙◌, ap, subst, arith}
use Rattle.std.specs.Prelude.{filter, map, unwrap_or}
use Rattle.std.proofs.lemmas.List.{append-nil, append_assoc, map-append}
use Rattle.std.proofs.lemmas.List.Elements.{All-contains, All-contains_itself, All-filter, Contains-append_right, Contains-push_cases}
use Rattle.cache_model.specs.Files.{Image, bytes_in, file_in}
use Rattle.cache_model.specs.Items.{Item, put, removal, end}
use Rattle.cache_model.specs.DataFiles.{Found, Frame, counted_items, found_in}
use Rattle.cache_model.proofs.Members.{among-here, among-none}
use Rattle.cache_model.specs.Images.{IsCounted, key_of, log_name}
use Rattle.cache_disk.specs.State.{HostState}
use Rattle.data_file.proofs.Frame.{placed_of}
use Rattle.data_file.specs.declared.scan.Scan.{Scan}
use Rattle.data_file.specs.Scanning.{IsScanOf, rest_of}
use Rattle.compactor.proofs.Entries.{among-filter}
use Rattle.compactor.specs.Counting.{Counts, HasReading, IsNewestBy}
use Rattle.compactor.specs.Passing.{IsSoundRest, records_in, records_left}
use Rattle.compactor.specs.Recounting.{is_record}
use Rattle.store_trait.specs.Meaning.{Reading, read_in}
use Rattle.soft_index.specs.declared.log_store.LogStore.{LogStore}
use Rattle.soft_index.specs.declared.running.Run.{Run}
use Rattle.soft_index.specs.Growing.{HasGrown}
use Rattle.soft_index.specs.Running.{HasRead, IsBegun, IsNeedless, IsOutdoneIn, ReadsOn, RunStands, records_of}
use Rattle.soft_index.specs.Stamped.{HasStamp}
use Rattle.soft_index.specs.RunLaws.{still_passed}
use Rattle.soft_index.specs.Store.{Holds, LogStands, content_of, number}

-- an item with a key is a record
keyed_record : (item : Item) (key : List ℕ) → key_of item ≡ Some key → is_record item ≡ true
keyed_record (put seq until k value) key is = refl
keyed_record (removal seq k) key is = refl
keyed_record (end moment) key is = cc

-- what counts in another file than the current one counts there
counted_in : (file n at : ℕ) (item : Item) (items : List (ℕ × Item)) (files : Image) → (n ≡ file → ⊥) → Holds file items files n at item → Contains (counted_items (bytes_in files (log_name n))) (at, item)
counted_in file n at item items files other (inl here) = absurd (other here.0)
counted_in file n at item items files other (inr beside) = subst (λ (f : Option (List ℕ)). Contains (counted_items (unwrap_or f [])) (at, item)) (sym beside.1.there) beside.1.counted

-- where all records of a file were looked at, none is its key's newest
pub none_newest : (run : Run) (S : LogStore) (files : Image) (frames : List Frame) (records : List Item) → (is : RunStands run S files frames records) → records_of files run.file ≡ is.looked
    → (key : List ℕ) (at : ℕ) (item : Item) → IsNewestBy (Holds (number S) (placed_of frames records) files) key run.file at item → ⊥
none_newest run S files frames records is all key at item newest =
    let items = counted_items (bytes_in files (log_name run.file)) in
    let within = counted_in (number S) run.file at item (placed_of frames records) files is.closed newest.counted in
    let record_in = among-filter (λ (one : ℕ × Item). is_record one.1) items (at, item) within (keyed_record item key newest.of_key) in
    is.passed key at item (subst (λ (l : List (ℕ × Item)). Contains l (at, item)) all record_in) newest

-- the next record of the file counts there
pub next_counts : (run : Run) (S : LogStore) (files : Image) (frames : List Frame) (records : List Item) (at : ℕ) (item : Item) → (is : RunStands run S files frames records) → run.is_stamped ≡ false → (rest : List (ℕ × Item))
    → records_left run.scan (bytes_in files (log_name run.file)) ≡ (at, item) ∷ rest → Holds (number S) (placed_of frames records) files run.file at item
next_counts run S files frames records at item is unstamped rest left =
    inr (is.closed, there (file_in files (log_name run.file)) refl is.there)
  where
    within : Contains (counted_items (bytes_in files (log_name run.file))) (at, item)
    within =
        All-contains (Contains (counted_items (bytes_in files (log_name run.file)))) (records_of files run.file) (at, item)
        (All-filter (λ (one : ℕ × Item). is_record one.1) (Contains (counted_items (bytes_in files (log_name run.file)))) (counted_items (bytes_in files (log_name run.file))) (All-contains_itself (counted_items (bytes_in files (log_name run.file)))))
        (subst (λ (l : List (ℕ × Item)). Contains l (at, item)) (sym ((is.reads unstamped).records_are ∙ ap (λ (l : List (ℕ × Item)). is.looked ++ l) left))
        (Contains-append_right is.looked ((at, item) ∷ rest) (at, item) (among-here (at, item) rest)))

    there : (found : Option (List ℕ)) → file_in files (log_name run.file) ≡ found → IsSome found → IsCounted files run.file at item
    there None at_file some = cc
    there (Some bytes) at_file some = record { bytes = bytes; there = at_file; counted = subst (λ (f : Option (List ℕ)). Contains (counted_items (unwrap_or f [])) (at, item)) at_file within }

-- one record more was looked at
pub run_looked : (was run next : Run) (S T : LogStore) (a b : HostState) (frames : List Frame) (records : List Item) (at : ℕ) (item : Item) (key : List ℕ)
    → (is : RunStands was S a.files frames records)
    → HasRead was run a.files
    → records_left was.scan (bytes_in a.files (log_name was.file)) ≡ (at, item) ∷ records_left run.scan (bytes_in a.files (log_name was.file))
    → next.file ≡ run.file → next.scan ≡ run.scan → next.is_stamped ≡ run.is_stamped → next.looked.items ≡ run.looked.items ++ key ∷ [] → key_of item ≡ Some key
    → (grown : HasGrown S T a.files b frames records)
    → ((k : List ℕ) → IsNewestBy (Holds (number T) (placed_of grown.fs grown.rs) b.files) k was.file at item → ⊥)
    → RunStands next T b.files grown.fs grown.rs
run_looked was run next S T a b frames records at item key is read given same_file same_scan same_stamp looked of_key grown passed =
    record {
      there = at_file (λ n. IsSome (file_in b.files (log_name n))) (subst (λ (f : Option (List ℕ)). IsSome f) (sym moved.1) is.there);
      closed = at_file (λ n. n ≡ number T → ⊥) moved.0;
      looked = is.looked ++ (at, item) ∷ [];
      keys = map-append (λ (one : ℕ × Item). key_of one.1) is.looked ((at, item) ∷ [])
          ∙ ap (λ (l : List (Option (List ℕ))). l ++ key_of item ∷ []) is.keys
          ∙ ap (λ (k : Option (List ℕ)). map (λ (x : List ℕ). Some x) was.looked.items ++ k ∷ []) of_key
          ∙ sym (map-append (λ (x : List ℕ). Some x) was.looked.items (key ∷ []))
          ∙ ap (λ (l : List (List ℕ)). map (λ (x : List ℕ). Some x) l) (sym (looked ∙ ap (λ (l : List (List ℕ)). l ++ key ∷ []) read.looked));
      passed = λ k place one among newest. passed_by k place one among (at_run (λ n. IsNewestBy (Holds (number T) (placed_of grown.fs grown.rs) b.files) k n place one) newest);
      reads = λ on. subst (λ (c : Scan). ReadsOn c b.files next.file (is.looked ++ (at, item) ∷ [])) (sym same_scan) (at_file (λ n. ReadsOn run.scan b.files n (is.looked ++ (at, item) ∷ [])) reads_now);
      stamped = λ on. let no : false ≡ true = sym read.still ∙ sym same_stamp ∙ on in cc;
    }
  where
    bytes : List ℕ
    bytes = bytes_in a.files (log_name was.file)

    moved : (was.file ≡ number T → ⊥) × (file_in b.files (log_name was.file) ≡ file_in a.files (log_name was.file))
    moved = grown.grows.closed was.file is.closed is.there

    same : bytes_in b.files (log_name was.file) ≡ bytes
    same = ap (λ (f : Option (List ℕ)). unwrap_or f []) moved.1

    at_file : (P : ℕ → Type 0) → P was.file → P next.file
    at_file P here = subst P (sym (same_file ∙ read.file)) here

    at_run : (P : ℕ → Type 0) → P next.file → P was.file
    at_run P here = subst P (same_file ∙ read.file) here

    reads_now : ReadsOn run.scan b.files was.file (is.looked ++ (at, item) ∷ [])
    reads_now = record {
      scans = subst (IsScanOf run.scan) (sym same) read.scans;
      rest = subst (IsSoundRest run.scan) (sym same) read.rest;
      records_are = subst (λ (l : List ℕ). filter (λ one. is_record one.1) (counted_items l) ≡ (is.looked ++ (at, item) ∷ []) ++ records_left run.scan l) (sym same)
          ((is.reads read.unstamped).records_are ∙ ap (λ (l : List (ℕ × Item)). is.looked ++ l) given ∙ sym (append_assoc is.looked ((at, item) ∷ []) (records_left run.scan bytes)));
    }

    passed_by : (k : List ℕ) (place : ℕ) (one : Item) → Contains (is.looked ++ (at, item) ∷ []) (place, one) → IsNewestBy (Holds (number T) (placed_of grown.fs grown.rs) b.files) k was.file place one → ⊥
    passed_by k place one among newest = ⊎_elim
        (λ before. still_passed S T a.files b.files frames grown.fs records grown.rs grown.grows was.file is.there is.closed k place one (is.passed k place one before) newest)
        (λ last. passed k (subst (λ (p : ℕ × Item). IsNewestBy (Holds (number T) (placed_of grown.fs grown.rs) b.files) k was.file p.0 p.1) (sym last) newest))
        (Contains-push_cases is.looked (at, item) (place, one) among)

-- behind the last record the log was stamped
pub run_marked : (was run next : Run) (S T : LogStore) (a b : HostState) (frames : List Frame) (records : List Item) (moment : ℕ)
    → (is : RunStands was S a.files frames records)
    → HasRead was run a.files
    → records_left was.scan (bytes_in a.files (log_name was.file)) ≡ []
    → next.file ≡ run.file → next.is_stamped ≡ true → next.looked.items ≡ run.looked.items
    → (stamped : HasStamp S T a b frames records moment) → T.latest ≤ moment
    → RunStands next T b.files stamped.0.fs stamped.0.rs
run_marked was run next S T a b frames records moment is read none same_file same_stamp looked stamped latest =
    record {
      there = at_file (λ n. IsSome (file_in b.files (log_name n))) (subst (λ (f : Option (List ℕ)). IsSome f) (sym moved.1) is.there);
      closed = at_file (λ n. n ≡ number T → ⊥) moved.0;
      looked = is.looked;
      keys = is.keys ∙ ap (λ (l : List (List ℕ)). map (λ (x : List ℕ). Some x) l) (sym (looked ∙ read.looked));
      passed = λ k place one among newest. not_newest k place one (subst (λ (n : ℕ). IsNewestBy counts k n place one) (same_file ∙ read.file) newest);
      reads = λ on. let no : true ≡ false = sym same_stamp ∙ on in cc;
      stamped = λ on. (
        at_file (λ n. records_of b.files n ≡ is.looked) (subst (λ (l : List ℕ). filter (λ one. is_record one.1) (counted_items l) ≡ is.looked) (sym same) all),
        at_file (λ n. IsNeedless (Holds (number T) (placed_of fs []) b.files) n) (subst (λ (l : List Item). IsNeedless (Holds (number T) (placed_of fs l) b.files) was.file) stamped.1 needless),
      );
    }
  where
    fs : List Frame
    fs = stamped.0.fs

    rs : List Item
    rs = stamped.0.rs

    counts : Counts
    counts = Holds (number T) (placed_of fs rs) b.files

    moved : (was.file ≡ number T → ⊥) × (file_in b.files (log_name was.file) ≡ file_in a.files (log_name was.file))
    moved = stamped.0.grows.closed was.file is.closed is.there

    same : bytes_in b.files (log_name was.file) ≡ bytes_in a.files (log_name was.file)
    same = ap (λ (f : Option (List ℕ)). unwrap_or f []) moved.1

    at_file : (P : ℕ → Type 0) → P was.file → P next.file
    at_file P here = subst P (sym (same_file ∙ read.file)) here

    all : records_of a.files was.file ≡ is.looked
    all = (is.reads read.unstamped).records_are ∙ ap (λ (l : List (ℕ × Item)). is.looked ++ l) none ∙ append-nil is.looked

    not_newest : (k : List ℕ) (place : ℕ) (one : Item) → IsNewestBy counts k was.file place one → ⊥
    not_newest k place one newest =
        still_passed S T a.files b.files frames fs records rs stamped.0.grows was.file is.there is.closed k place one (none_newest was S a.files frames records is all k place one) newest

    outdone : (key : List ℕ) (at : ℕ) (item : Item) → counts was.file at item → key_of item ≡ Some key → (r : Reading) → HasReading counts key r → IsOutdoneIn counts key was.file at item
    outdone key at item holds of_key r (inl nothing) = absurd (nothing.0 was.file at item holds of_key)
    outdone key at item holds of_key r (inr some) = (
      some.0,
      some.1,
      some.2,
      some.3.counted,
      some.3.of_key,
      (λ here. not_newest key some.1 some.2 (subst (λ (n : ℕ). IsNewestBy counts key n some.1 some.2) here some.3)),
      some.3.newest was.file at item holds of_key,
    )

    needless : IsNeedless counts was.file
    needless = record {
      outdone = λ key at item holds of_key. outdone key at item holds of_key (read_in (content_of T b.files) key) (stamped.0.holds.content key);
      stamped = number T;
      at = stamped.2;
      moment = moment;
      stamp = subst (λ (l : List Item). Holds (number T) (placed_of fs l) b.files (number T) stamped.2 (end moment)) (sym stamped.1) stamped.3;
      elsewhere = λ here. moved.0 (sym here);
      latest = λ a' m holds. omega (arith, stamped.0.holds.mark was.file a' m holds, latest);
    }

-- a compaction that was just begun
pub run_begun : (run : Run) (S : LogStore) (a : HostState) (frames : List Frame) (records : List Item) (file : ℕ) → LogStands S a frames records → IsBegun file run
    → IsSome (file_in a.files (log_name file)) → (file ≡ number S → ⊥)
    → IsScanOf run.scan (bytes_in a.files (log_name file)) → rest_of run.scan (bytes_in a.files (log_name file)) ≡ found_in (bytes_in a.files (log_name file))
    → RunStands run S a.files frames records
run_begun run S a frames records file stands begun there closed scans whole =
    record {
      there = at_file (λ n. IsSome (file_in a.files (log_name n))) there;
      closed = at_file (λ n. n ≡ number S → ⊥) closed;
      looked = [];
      keys = ap (λ (l : List (List ℕ)). map (λ (x : List ℕ). Some x) l) (sym begun.none);
      passed = λ k place one among newest. absurd (among-none (place, one) among);
      reads = λ on. at_file (λ n. ReadsOn run.scan a.files n []) (record { scans = scans; rest = ap (λ (f : Found). f.damage) whole ∙ sound; records_are = ap records_in (sym whole) });
      stamped = λ on. let no : false ≡ true = sym begun.unstamped ∙ on in cc;
    }
  where
    at_file : (P : ℕ → Type 0) → P file → P run.file
    at_file P here = subst P (sym begun.file_is) here

    sound : (found_in (bytes_in a.files (log_name file))).damage ≡ None
    sound = by (file_in a.files (log_name file)) refl there
      where
        by : (found : Option (List ℕ)) → file_in a.files (log_name file) ≡ found → IsSome found → (found_in (bytes_in a.files (log_name file))).damage ≡ None
        by None is some = cc
        by (Some bytes) is some = subst (λ (f : Option (List ℕ)). (found_in (unwrap_or f [])).damage ≡ None) (sym is) (stands.sound file bytes closed is)
