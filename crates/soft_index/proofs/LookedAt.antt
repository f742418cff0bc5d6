-- What it is to the store that a record of a compacted file is looked at.
use Rattle.std.proofs.Common.{◌≡◌, inl, inr, ℕ, ◌≤◌, Bool, false, List, Option, Some, IsSome, refl, sym, ◌∙◌, ap, subst, arith}
use Rattle.std.specs.Prelude.{Result, Ok, Err, OnOk}
use Rattle.cache_model.specs.declared.faults.StoreFault.{StoreFault}
use Rattle.cache_model.specs.declared.faults.StoreFault.TheVariants as fault
use Rattle.cache_model.specs.declared.files.Place.{Place}
use Rattle.cache_model.specs.Files.{Image, file_in}
use Rattle.cache_model.specs.Items.{Item, IsItem, IsRecord, put, removal, end, spelling}
use Rattle.cache_model.specs.DataFiles.{Frame}
use Rattle.cache_model.specs.Images.{key_of, log_name}
use Rattle.cache_disk.specs.State.{HostState}
use Rattle.cache_disk.specs.State as disk
use Rattle.data_file.proofs.Frame.{placed_of}
use Rattle.append_log.specs.Current.{files_of, number_of}
use Rattle.compactor.specs.Counting.{IsNewestBy}
use Rattle.compactor.specs.Looking.{Looks}
use Rattle.temporary_table.specs.Queue.{Queue}
use Rattle.tree_index.specs.Index.{Index}
use Rattle.cache_disk.proofs.Runs.{Stands-same}
use Rattle.store_trait.specs.Keeping.{SameContent, SameStore}
use Rattle.store_trait.specs.Calls.{Acts, Plainly}
use Rattle.soft_index.specs.declared.log_store.LogStore.{LogStore}
use Rattle.compactor.specs.Indexing.{is_removal}
use Rattle.soft_index.specs.Copied.{HasCopy, IsCopied, IsNewestOf}
use Rattle.soft_index.specs.Growing.{HasGrown}
use Rattle.soft_index.specs.Laws.{holds-there}
use Rattle.soft_index.specs.Running.{ActsOr, HasLooked, IsStill}
use Rattle.soft_index.specs.Store.{Holds, LogStands, MakesRoom, Queues, content_of, log_facts, log_means, number}
use Rattle.soft_index.proofs.Chaining.{acts_chain, acts_err, acts_ok, acts_or, content_chain, still_acts_or}
use Rattle.file_stats.specs.Figures.{Figures}
use Rattle.soft_index.proofs.Changes.{as_was, still_stands}
use Rattle.soft_index.proofs.Copied.{file_below}
use Rattle.soft_index.proofs.Growing.{grows_both, grows_still}

-- a file with an item that counts is there
pub file_there : (files : Image) (n : ℕ) (bytes : List ℕ) → file_in files (log_name n) ≡ Some bytes → IsSome (file_in files (log_name n))
file_there files n bytes is = subst (λ (found : Option (List ℕ)). IsSome found) (sym is) refl

-- Where a copy of a record stands in the current file, the record in another file isn't its key's newest.
pub copy_passes : (T : LogStore) (c : HostState) (fs : List Frame) (rs : List Item) (file at place : ℕ) (one : Item) → LogStands T c fs rs → (file ≡ number T → ⊥)
    → Holds (number T) (placed_of fs rs) c.files (number T) place one → (key : List ℕ) → IsNewestBy (Holds (number T) (placed_of fs rs) c.files) key file at one → ⊥
copy_passes T c fs rs file at place one stands closed copy key newest = by newest.counted
  where
    by : Holds (number T) (placed_of fs rs) c.files file at one → ⊥
    by (inl here) = closed here.0
    by (inr other) =
        let below = file_below T c.files stands.log.1.beyond file other.1.bytes closed other.1.there in
        omega (arith, below, newest.newest (number T) place one copy newest.of_key)

-- where nothing was done
pub looked_failed : {R : Type 0} (S T : LogStore) (a b : HostState) (frames : List Frame) (records : List Item) (moment file at : ℕ) (item : Item) (f : StoreFault)
    → ActsOr {R = R} S T a b moment (Err f) → HasLooked {R = R} S T a b frames records moment file at item (Err f)
looked_failed S T a b frames records moment file at item f acts = record { acts = acts; content = tt; passed = tt }

-- where a record was found not to be its key's newest
pub looked_still : (S T : LogStore) (a b : HostState) (frames : List Frame) (records : List Item) (moment file at : ℕ) (item : Item) (key : List ℕ)
    → files_of T.parts.log ≡ files_of S.parts.log → disk.Stands a b → key_of item ≡ Some key
    → IsStill {R = Unit {0}} S T a b frames records moment (Ok tt)
    → (IsNewestBy (Holds (number S) (placed_of frames records) a.files) key file at item → ⊥)
    → HasLooked {R = Unit {0}} S T a b frames records moment file at item (Ok tt)
looked_still S T a b frames records moment file at item key files still of_key is passed = record {
  acts = is.acts;
  content = is.content;
  passed = (grows_still S T a b frames records (ap number_of files) still is.kept, not_newest);
}
  where
    same : number T ≡ number S
    same = ap number_of files

    forth : (n a' : ℕ) (other : Item) → Holds (number S) (placed_of frames records) a.files n a' other → Holds (number T) (placed_of frames records) b.files n a' other
    forth n a' other holds = subst (λ (k : ℕ). Holds k (placed_of frames records) b.files n a' other) (sym same) (holds-there (number S) (placed_of frames records) a.files b.files (λ m apart. still.files (log_name m)) n a' other holds)

    back : (n a' : ℕ) (other : Item) → Holds (number T) (placed_of frames records) b.files n a' other → Holds (number S) (placed_of frames records) a.files n a' other
    back n a' other holds = holds-there (number S) (placed_of frames records) b.files a.files (λ m apart. sym (still.files (log_name m))) n a' other (subst (λ (k : ℕ). Holds k (placed_of frames records) b.files n a' other) same holds)

    not_newest : (k : List ℕ) → IsNewestBy (Holds (number T) (placed_of frames records) b.files) k file at item → ⊥
    not_newest k newest =
        let both : Some key ≡ Some k = sym of_key ∙ newest.of_key in
        let keys : k ≡ key = cc in
        passed (record {
          counted = back file at item newest.counted;
          of_key = of_key;
          newest = λ n a' other holds other_key. newest.newest n a' other (forth n a' other holds) (other_key ∙ ap (λ (l : List ℕ). Some l) (sym keys));
        })

-- where it was copied
pub looked_copied : {R : Type 0} (S T : LogStore) (a b : HostState) (frames : List Frame) (records : List Item) (moment file at : ℕ) (one : Item) (result : Result R StoreFault)
    → Holds (number S) (placed_of frames records) a.files file at one → (file ≡ number S → ⊥)
    → IsCopied S T a b frames records moment one result
    → HasLooked S T a b frames records moment file at one result
looked_copied {R} S T a b frames records moment file at one result counted closed copied = record {
  acts = acts_or S T a b moment result copied.acts;
  content = copied.content;
  passed = by result copied.copied;
}
  where
    there : Holds (number S) (placed_of frames records) a.files file at one → IsSome (file_in a.files (log_name file))
    there (inl here) = absurd (closed here.0)
    there (inr other) = file_there a.files file other.1.bytes other.1.there

    by : (r : Result R StoreFault) → OnOk r (HasCopy S T a b frames records one)
        → OnOk r ((grown : HasGrown S T a.files b frames records) × ((key : List ℕ) → IsNewestBy (Holds (number T) (placed_of grown.fs grown.rs) b.files) key file at one → ⊥))
    by (Ok x) copy =
        let all = copy.0 in
        (all, copy_passes T b all.fs all.rs file at copy.1 one all.holds (all.grows.closed file closed (there counted)).0 copy.2)
    by (Err f) copy = tt

-- where something was done before that wrote nothing
pub looked_behind : {Q R : Type 0} (S M T : LogStore) (a b c : HostState) (frames : List Frame) (records : List Item) (moment file at : ℕ) (one : Item) (x : Q) (result : Result R StoreFault)
    → SameStore (log_facts S) (log_facts M) → files_of M.parts.log ≡ files_of S.parts.log → disk.Stands a b
    → LogStands M b frames records → SameContent (content_of S a.files) (content_of M b.files)
    → Acts {T = Q} (log_facts S) (log_facts M) (log_means S a) (log_means M b) a b moment (content_of S a.files) (Ok x)
    → HasLooked M T b c frames records moment file at one result
    → HasLooked S T a c frames records moment file at one result
looked_behind {Q} {R} S M T a b c frames records moment file at one x result same files still stands content first looked = record {
  acts = acts_chain {Q = Q} S M T a b c moment x result same content first looked.acts;
  content = content_chain (content_of S a.files) (content_of M b.files) (content_of T c.files) result content looked.content;
  passed = by result looked.passed;
}
  where
    by : (r : Result R StoreFault)
        → OnOk r ((grown : HasGrown M T b.files c frames records) × ((key : List ℕ) → IsNewestBy (Holds (number T) (placed_of grown.fs grown.rs) c.files) key file at one → ⊥))
        → OnOk r ((grown : HasGrown S T a.files c frames records) × ((key : List ℕ) → IsNewestBy (Holds (number T) (placed_of grown.fs grown.rs) c.files) key file at one → ⊥))
    by (Ok y) passed = (grows_both S M T a b c frames records (grows_still S M a b frames records (ap number_of files) still stands) passed.0, passed.1)
    by (Err f) passed = tt

-- the same with another answer
pub looked_ok : {Q R : Type 0} (S T : LogStore) (a b : HostState) (frames : List Frame) (records : List Item) (moment file at : ℕ) (one : Item) (x : Q) (y : R)
    → HasLooked {R = Q} S T a b frames records moment file at one (Ok x) → HasLooked {R = R} S T a b frames records moment file at one (Ok y)
looked_ok {Q} {R} S T a b frames records moment file at one x y is = record { acts = acts_ok {Q = Q} {R = R} S T a b moment x y is.acts; content = is.content; passed = is.passed }

pub looked_err : {Q R : Type 0} (S T : LogStore) (a b : HostState) (frames : List Frame) (records : List Item) (moment file at : ℕ) (one : Item) (f : StoreFault)
    → HasLooked {R = Q} S T a b frames records moment file at one (Err f) → HasLooked {R = R} S T a b frames records moment file at one (Err f)
looked_err {Q} {R} S T a b frames records moment file at one f is = record { acts = acts_err {Q = Q} {R = R} S T a b moment f is.acts; content = tt; passed = tt }

-- where there was no memory for it
pub looked_memory : (S T : LogStore) (a : HostState) (frames : List Frame) (records : List Item) (moment file at : ℕ) (one : Item)
    → LogStands S a frames records → S.parts.spoilt ≡ false → S.latest ≤ moment → T.latest ≡ moment → HasLooked {R = Unit {0}} S T a a frames records moment file at one (Err fault.Memory)
looked_memory S T a frames records moment file at one stands sound late latest =
    looked_failed {R = Unit {0}} S T a a frames records moment file at one fault.Memory
    (still_acts_or {R = Unit {0}} S T a a frames records moment (Err fault.Memory) stands sound late latest (Stands-same a) tt tt (λ d err. cc) (λ s err. cc)).acts

-- a key's newest record is so where nothing was written
pub newest_still : (S M : LogStore) (a b : HostState) (frames : List Frame) (records : List Item) (key : List ℕ) (file at : ℕ) (one : Item) → files_of M.parts.log ≡ files_of S.parts.log → disk.Stands a b
    → IsNewestBy (Holds (number S) (placed_of frames records) a.files) key file at one → IsNewestBy (Holds (number M) (placed_of frames records) b.files) key file at one
newest_still S M a b frames records key file at one files still newest = record {
  counted = forth file at one newest.counted;
  of_key = newest.of_key;
  newest = λ n place other holds of_key. newest.newest n place other (back n place other holds) of_key;
}
  where
    same : number M ≡ number S
    same = ap number_of files

    forth : (n place : ℕ) (other : Item) → Holds (number S) (placed_of frames records) a.files n place other → Holds (number M) (placed_of frames records) b.files n place other
    forth n place other holds = subst (λ (k : ℕ). Holds k (placed_of frames records) b.files n place other) (sym same) (holds-there (number S) (placed_of frames records) a.files b.files (λ m apart. still.files (log_name m)) n place other holds)

    back : (n place : ℕ) (other : Item) → Holds (number M) (placed_of frames records) b.files n place other → Holds (number S) (placed_of frames records) a.files n place other
    back n place other holds = holds-there (number S) (placed_of frames records) b.files a.files (λ m apart. sym (still.files (log_name m))) n place other (subst (λ (k : ℕ). Holds k (placed_of frames records) b.files n place other) same holds)

-- an item with a key is a record
pub keyed_item : (item : Item) (key : List ℕ) → IsItem item → key_of item ≡ Some key → IsRecord item
keyed_item (put seq until k value) key is of_key = is
keyed_item (removal seq k) key is of_key = is
keyed_item (end moment) key is of_key = cc

-- what a call that looked at the parts says whatever the host tells
pub looks_plain : {R : Type 0} (S T : LogStore) (moment : ℕ) (x : R) → Looks {R = R} S.parts T.parts (Ok x) → T.latest ≡ moment → T.sync_writes ≡ S.sync_writes → Plainly {T = R} (log_facts S) (log_facts T) moment (Ok x)
looks_plain S T moment x looks latest sync =
    let limit : T.parts.requests.limit ≡ S.parts.requests.limit = ap (λ (q : Queue). q.limit) looks.requests in
    record {
      same = record {
        bits = ap (λ (t : Index). t.bits) looks.tree;
        owns = refl;
        ordered = refl;
        firm = sync;
        forgets = λ key. (λ x. x, λ x. x);
        moves = λ c a b. (subst (λ (n : ℕ). Queues n a b) limit, subst (λ (n : ℕ). Queues n a b) (sym limit));
        empties = λ a b. (λ x. x, λ x. x);
        room = λ a b. (subst (λ (n : ℕ). MakesRoom n a b) limit, subst (λ (n : ℕ). MakesRoom n a b) (sym limit));
        steps = λ files kind turned a b. (λ x. x, λ x. x);
        compacts = λ files mid file turned turns a b. (λ x. x, λ x. x);
        turns = λ files mid file rows. refl;
        compacts_all = λ files mid turns a b. (λ z. z, λ z. z);
        turns_all = λ files mid rows turns. (λ z. z, λ z. z);
        sweeps = λ files image. (λ z. z, λ z. z);
        counts = λ files figures a b. (λ x. x, λ x. x);
      };
      usable = looks.usable;
      unspoilt = looks.unspoilt;
      spoilt = tt;
      late = omega (arith, latest);
      sequence = λ n err. cc;
      files = λ n err. cc;
    }

-- and what it is to the store on a host that tells its contents
pub looks_still : {R : Type 0} (S T : LogStore) (a b : HostState) (frames : List Frame) (records : List Item) (moment : ℕ) (x : R) → LogStands S a frames records → S.parts.spoilt ≡ false → S.latest ≤ moment → T.latest ≡ moment
    → Looks {R = R} S.parts T.parts (Ok x) → disk.Stands a b → IsStill {R = R} S T a b frames records moment (Ok x)
looks_still {R} S T a b frames records moment x stands sound late latest looks still =
    let kept = as_was S T a.files b.files (looks.log looks.unspoilt) (looks.table, looks.tree, looks.requests) (ap (λ (f : Figures). f.rows) looks.stats) (λ n. still.files (log_name n)) in
    still_acts_or {R = R} S T a b frames records moment (Ok x) stands sound late latest still (still_stands S T a b frames records stands kept (omega (arith, late, latest)) still) kept.content (λ d err. cc) (λ s err. cc)

-- the record that is copied is its key's newest, once room was made
pub newest_of : (S M : LogStore) (a b : HostState) (frames : List Frame) (records : List Item) (key k : List ℕ) (place : Place) (gone : Bool) (spelled : List ℕ) (item : Item)
    → files_of M.parts.log ≡ files_of S.parts.log → disk.Stands a b → LogStands M b frames records → k ≡ key → IsItem item → key_of item ≡ Some key → spelled ≡ spelling item → gone ≡ is_removal item
    → IsNewestBy (Holds (number S) (placed_of frames records) a.files) key place.file place.at item
    → IsNewestOf M b frames records k place gone spelled item
newest_of S M a b frames records key k place gone spelled item files still stands same is of_key spelled_is gone_is newest = record {
  stands = stands;
  newest = subst (λ (l : List ℕ). IsNewestBy (Holds (number M) (placed_of frames records) b.files) l place.file place.at item) (sym same) (newest_still S M a b frames records key place.file place.at item files still newest);
  is_record = keyed_item item key is of_key;
  spelled_is = spelled_is;
  gone_is = gone_is;
}
