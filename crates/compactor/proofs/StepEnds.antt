-- How an index step ends.
use Rattle.std.proofs.Common.{◌≡◌, ◌⊎◌, ⊎_elim, inl, inr, ℕ, ◌≤◌, Bool, true, false, List, [], ◌∷◌, ◌++◌, All, Contains, length, Option, Some, None, refl, sym, ◌∙◌, ap, subst, arith}
use Rattle.std.specs.Prelude.{Ok, Err, IsErrOf, cond, slice_get, option_to_list}
use Rattle.std.proofs.lemmas.List.Elements.{All-head, All-tail}
use Rattle.cache_model.specs.declared.faults.Damage.{Damage}
use Rattle.cache_model.specs.declared.faults.StoreFault.{StoreFault}
use Rattle.cache_model.specs.declared.faults.StoreFault.TheVariants as fault
use Rattle.cache_model.specs.declared.files.FileCount.{FileCount}
use Rattle.cache_model.specs.declared.files.Place.{Place}
use Rattle.cache_model.specs.declared.index.IndexKey.{IndexKey}
use Rattle.cache_model.specs.declared.index.IndexValue.{IndexValue}
use Rattle.cache_model.specs.declared.replies.Turned.{Turned}
use Rattle.cache_model.specs.declared.replies.Turned.TheVariants.{Done, Idle}
use Rattle.cache_model.specs.Files.{Image}
use Rattle.cache_model.specs.Hash.{hash}
use Rattle.append_log.specs.declared.log_calls.Log.{Log}
use Rattle.append_log.specs.declared.log_files.LogFiles.{LogFiles}
use Rattle.append_log.specs.Current.{IsUsable, files_of, is_spoilt_log, store_of}
use Rattle.append_log.specs.Fetching.{with_spoilt}
use Rattle.file_stats.specs.Figures.{Figures, numbers_of}
use Rattle.temporary_table.specs.declared.requests.Request.{Request}
use Rattle.temporary_table.specs.declared.requests.Request.TheVariants.{Set, Swap, Drop, Less}
use Rattle.temporary_table.specs.Places.{Places}
use Rattle.temporary_table.specs.Queue as queue
use Rattle.temporary_table.specs.Queue.{Queue}
use Rattle.tree_index.specs.Index.{Index, AreOrdered, entries_of, value_at}
use Rattle.compactor.specs.declared.entering.Entered.{Entered}
use Rattle.compactor.specs.declared.finding.FoundEntry.{FoundEntry}
use Rattle.compactor.specs.declared.parts.Parts.{Parts}
use Rattle.compactor.specs.Counting.{Counts, Kept, AreThere, IsFileNumber, counts_in}
use Rattle.compactor.specs.Entering.{Row, Drops, Enters, IsHeld, Settles, count_behind, entry_key, fresh_by, one_less, one_more, recounted, row_by, stale_by, stands_at, swapped, with_dead, with_live, with_taken}
use Rattle.compactor.specs.Finding.{IsDamagedEntry, IsEntryFor, spoils}
use Rattle.compactor.specs.Figuring.{AreFigured, IsFigured, sizes_of}
use Rattle.compactor.specs.Indexing.{IsEntryOf, IsIndexed, AreIndexed, IsPutToFile, AreUsable}
use Rattle.compactor.specs.Raising.{HasCount, Raises, raised}
use Rattle.compactor.specs.Stepping.{Applies, KeepsIndex, Refigures, StepsIndex}
use Rattle.compactor.proofs.Applying.{applied_indexed, applied_raised}
use Rattle.compactor.proofs.Figured.{figured_put, figured_taken, same_numbers, same_sizes}
use Rattle.compactor.proofs.Looked.{none_damaged}
use Rattle.compactor.proofs.Reindexed.{held_or_put, put_held, same_bits, stale_held, still_ordered, values_put, values_taken}
use Rattle.compactor.proofs.Searching.{as_sound}
use Rattle.compactor.proofs.Stepped.{in_front, none_waits, others_left, still_settled}

-- what stays of a log, by whether it is spoilt now
as_left : (now before : LogFiles) (spoilt : Bool) → now ≡ with_spoilt before spoilt → now ≡ with_spoilt before now.spoilt
as_left now before spoilt is = is ∙ ap (λ (s : Bool). with_spoilt before s) (sym (ap (λ (l : LogFiles). l.spoilt) is))

-- nothing was put and nothing taken out
pub unmoved : (old new : Parts) → new.tree ≡ old.tree → new.stats ≡ old.stats → (put : Option Row) × (taken : Option Row) × Refigures put taken old new
unmoved old new tree stats = (None, None, record { values = λ at. ap (λ (i : Index). value_at i.entries at) tree; rows = ap (λ (f : Figures). f.rows) stats; spare = ap (λ (f : Figures). f.spare) stats })

-- where none waits nothing changes
pub steps_idle : (old : Parts) → AreUsable old → None ≡ slice_get old.requests.waiting 0 → StepsIndex old old (Ok Idle)
steps_idle old usable first = record {
  limit = refl;
  bits = refl;
  popped = (none_waits old.requests.waiting first, none_waits old.requests.waiting first);
  waits = tt;
  log = λ unspoilt. refl;
  same_log = refl;
  usable = λ unspoilt. usable;
  unspoilt = usable.unspoilt;
  spoilt = tt;
  sizes = λ unspoilt. refl;
  moved = λ unspoilt. unmoved old old refl refl;
  applied = λ request waiting front. let both : request ∷ waiting ≡ [] = sym front ∙ none_waits old.requests.waiting first in cc;
}

abbrev row_of_set : ℕ → List ℕ → Place → Bool → Option FoundEntry → Row
row_of_set bits key to gone found = (entry_key bits key to, record { length = to.length; count = count_behind found; gone = gone })

abbrev row_of_swap : ℕ → List ℕ → Place → FoundEntry → Row
row_of_swap bits key to f = (entry_key bits key to, record { length = to.length; count = one_more f.value.count; gone = f.value.gone })

-- where an entry that a request puts stands in a file, that has a number that a data file may have
put_numbered : (bits : ℕ) (index : Index) (request : Request) (found : Option FoundEntry) → IsHeld index.entries found → IsPutToFile request → ((at : IndexKey) (value : IndexValue) → value_at index.entries at ≡ Some value → IsFileNumber at.file)
    → (row : Row) → row_by bits request found ≡ Some row → IsFileNumber row.0.file
put_numbered bits index (Set key to gone) found held to_file numbers row is = let same : row_of_set bits key to gone found ≡ row = cc in subst (λ (r : Row). IsFileNumber r.0.file) same to_file
put_numbered bits index (Swap key from to) None held to_file numbers row is = cc
put_numbered bits index (Swap key from to) (Some f) held to_file numbers row is = by (stands_at f.at.file f.at.at from) refl
  where
    swapped_is : swapped bits key from to f ≡ row
    swapped_is = cc

    by : (b : Bool) → stands_at f.at.file f.at.at from ≡ b → IsFileNumber row.0.file
    by true there =
        let same : row_of_swap bits key to f ≡ row = sym (ap (λ (b : Bool). cond b (row_of_swap bits key to f) (recounted f (one_more f.value.count))) there) ∙ swapped_is in
        subst (λ (r : Row). IsFileNumber r.0.file) same to_file
    by false elsewhere =
        let same : recounted f (one_more f.value.count) ≡ row = sym (ap (λ (b : Bool). cond b (row_of_swap bits key to f) (recounted f (one_more f.value.count))) elsewhere) ∙ swapped_is in
        subst (λ (r : Row). IsFileNumber r.0.file) same (numbers f.at f.value held)
put_numbered bits index (Drop key from) found held to_file numbers row is = cc
put_numbered bits index (Less key) None held to_file numbers row is = cc
put_numbered bits index (Less key) (Some f) held to_file numbers row is = let same : recounted f (one_less f.value.count) ≡ row = cc in subst (λ (r : Row). IsFileNumber r.0.file) same (numbers f.at f.value held)

-- what an index step that applied a request leaves, where this was found of its key
pub record Ended (old new : Parts) (request : Request) (found : Option FoundEntry) : Type 1 where
  pub steps : StepsIndex old new (Ok Done)
  pub keeps : (counts : Counts) (files : Image) → AreIndexed counts old → AreThere counts files → IsEntryFor files (queue.key_of request) (entries_of (hash old.tree.bits (queue.key_of request)) old.tree.entries) found → KeepsIndex {R = Turned} counts new (Ok Done)
  pub raises : (counts : Counts) (files : Image) → AreIndexed counts old → AreThere counts files → IsEntryFor files (queue.key_of request) (entries_of (hash old.tree.bits (queue.key_of request)) old.tree.entries) found → Raises counts old new
  pub figures : (kept : Kept) (files : Image) → AreIndexed (counts_in kept) old → AreThere (counts_in kept) files → IsEntryFor files (queue.key_of request) (entries_of (hash old.tree.bits (queue.key_of request)) old.tree.entries) found
      → AreFigured kept old → AreFigured kept new

module _ (old : Parts) (usable : AreUsable old) (request : Request) (first : Some request ≡ slice_get old.requests.waiting 0) (found : Option FoundEntry) (entered : Entered) (log : Log) (mid tree : Index) (stats : Figures) (table : Places) (requests : Queue)
    (same_log : files_of log ≡ with_spoilt (files_of old.log) false) (enters : Enters request found entered old.tree mid) (drops_entered : Drops entered.stale mid tree)
    (rows : stats.rows ≡ with_dead entered.stale (with_live entered.fresh old.stats.rows)) (spare : stats.spare ≡ old.stats.spare) (settles : Settles request old.table table)
    (taken : Option Request) (limit : requests.limit ≡ old.requests.limit) (oldest : old.requests.waiting ≡ option_to_list taken ++ requests.waiting) (none : taken ≡ None → old.requests.waiting ≡ []) where
  abbrev new : Parts
  new = record { log = log; tree = tree; table = table; requests = requests; stats = stats; spoilt = old.spoilt }

  abbrev put : Option Row
  put = row_by old.tree.bits request found

  abbrev stale : Option Row
  stale = stale_by found put

  drops : Drops stale mid tree
  drops = subst (λ (o : Option Row). Drops o mid tree) enters.stale_is drops_entered

  -- the oldest request is taken
  popped : old.requests.waiting ≡ request ∷ requests.waiting
  popped =
      let front = in_front old.requests.waiting request first in
      front.1 ∙ ap (λ (l : List Request). request ∷ l) (sym (others_left old.requests.waiting front.0 requests.waiting request taken front.1 oldest none))

  files_same : files_of log ≡ files_of old.log
  files_same = same_log ∙ sym (as_sound (files_of old.log) usable.log.sound)

  bits_same : tree.bits ≡ old.tree.bits
  bits_same = same_bits put stale old.tree mid tree enters.puts drops

  to_files : All IsPutToFile (request ∷ requests.waiting)
  to_files = subst (λ (l : List Request). All IsPutToFile l) popped usable.requested

  to_file : IsPutToFile request
  to_file = All-head IsPutToFile request requests.waiting to_files

  usable_new : AreUsable new
  usable_new = record {
    unspoilt = usable.unspoilt;
    log = subst (λ (l : LogFiles). IsUsable l) (sym files_same) usable.log;
    main = ap store_of files_same ∙ usable.main;
    bits = subst (λ (n : ℕ). n ≤ 32) (sym bits_same) usable.bits;
    same_bits = (still_settled request old.table table settles).0 ∙ usable.same_bits ∙ sym bits_same;
    some = subst (λ (n : ℕ). 1 ≤ n) (sym limit) usable.some;
    within = omega (arith, limit, usable.within, ap (λ (l : List Request). length l) popped);
    ordered = still_ordered put stale old.tree mid tree enters.puts drops usable.ordered;
    indexed = λ at value here. ⊎_elim
        (λ fresh. subst (λ (k : IndexKey). IsFileNumber k.file) (sym fresh.2) (put_numbered old.tree.bits old.tree request found enters.held to_file usable.indexed fresh.0 fresh.1))
        (λ held. usable.indexed at value held)
        (held_or_put put stale old.tree mid tree enters.puts drops at value here);
    placed = λ other place removed at. usable.placed other place removed ((still_settled request old.table table settles).1 other place removed at);
    requested = All-tail IsPutToFile request requests.waiting to_files;
  }

  refigured : Refigures put stale old new
  refigured = record {
    values = λ at. values_taken stale mid tree drops at ∙ ap (λ (o : Option IndexValue). with_taken stale at o) (values_put put old.tree mid enters.puts at);
    rows = rows ∙ ap (λ (o : Option Row). with_dead o (with_live entered.fresh old.stats.rows)) enters.stale_is ∙ ap (λ (o : Option Row). with_dead stale (with_live o old.stats.rows)) enters.fresh_is;
    spare = spare;
  }

  -- what the request in front is
  fronted : (one : Request) (waiting : List Request) → old.requests.waiting ≡ one ∷ waiting → request ≡ one
  fronted one waiting front = let both : request ∷ requests.waiting ≡ one ∷ waiting = sym popped ∙ front in cc

  steps_done : StepsIndex old new (Ok Done)
  steps_done = record {
    limit = limit;
    bits = bits_same;
    popped = (request, popped);
    waits = tt;
    log = λ unspoilt. files_same;
    same_log = as_left (files_of log) (files_of old.log) false same_log;
    usable = λ unspoilt. usable_new;
    unspoilt = usable.unspoilt;
    spoilt = tt;
    sizes = λ unspoilt. ap sizes_of refigured.rows ∙ same_sizes (fresh_by old.tree.entries put) stale old.stats.rows;
    moved = λ unspoilt. (put, stale, refigured);
    applied = λ one waiting front. subst (λ (r : Request). Applies r old new) (fronted one waiting front) (record { found = found; held = enters.held; moved = refigured });
  }

  keeps_done : (counts : Counts) (files : Image) → AreIndexed counts old → AreThere counts files → IsEntryFor files (queue.key_of request) (entries_of (hash old.tree.bits (queue.key_of request)) old.tree.entries) found → KeepsIndex {R = Turned} counts new (Ok Done)
  keeps_done counts files is there finds = record {
    indexed = λ unspoilt.
        applied_indexed counts files old.table old.tree requests.waiting there usable.ordered mid tree table request found (subst (λ (l : List Request). IsIndexed counts old.table old.tree l) popped is) to_file finds enters.puts drops settles;
    undamaged = λ d err. cc;
  }

  raises_done : (counts : Counts) (files : Image) → AreIndexed counts old → AreThere counts files → IsEntryFor files (queue.key_of request) (entries_of (hash old.tree.bits (queue.key_of request)) old.tree.entries) found → Raises counts old new
  raises_done counts files is there finds one waiting front k count has =
      subst (λ (r : Request). HasCount counts tree k (raised r k count)) (fronted one waiting front)
      (applied_raised counts files old.table old.tree requests.waiting there usable.ordered mid tree table request found (subst (λ (l : List Request). IsIndexed counts old.table old.tree l) popped is) to_file finds enters.puts drops k count has)

  figures_done : (kept : Kept) (files : Image) → AreIndexed (counts_in kept) old → AreThere (counts_in kept) files → IsEntryFor files (queue.key_of request) (entries_of (hash old.tree.bits (queue.key_of request)) old.tree.entries) found
      → AreFigured kept old → AreFigured kept new
  figures_done kept files is there finds figured =
      record {
        rows = subst (λ (l : List FileCount). All (IsFigured kept tree) l) (sym refigured.rows)
            (figured_taken kept figured.apart stale mid tree drops stale_there (with_live (fresh_by old.tree.entries put) old.stats.rows) (figured_put kept figured.apart put old.tree mid enters.puts put_there old.stats.rows figured.rows));
        apart = figured.apart;
        listed = λ number at item key counted of_key.
            subst (λ (l : List ℕ). Contains l number) (sym (ap numbers_of refigured.rows ∙ same_numbers (fresh_by old.tree.entries put) stale old.stats.rows)) (figured.listed number at item key counted of_key);
      }
    where
      put_there : (row : Row) → put ≡ Some row → (key : List ℕ) × IsEntryOf (counts_in kept) old.tree.bits key row.0 row.1
      put_there row row_is =
          let now : AreIndexed (counts_in kept) new = (keeps_done (counts_in kept) files is there finds).indexed usable.unspoilt in
          let entry = now.indexed row.0 row.1 (put_held put found old.tree mid tree enters.puts drops row row_is) in
          (entry.0, subst (λ (b : ℕ). IsEntryOf (counts_in kept) b entry.0 row.0 row.1) bits_same entry.1)

      stale_there : (row : Row) → stale ≡ Some row → (value_at mid.entries row.0 ≡ Some row.1) × ((key : List ℕ) × IsEntryOf (counts_in kept) tree.bits key row.0 row.1)
      stale_there row row_is =
          let both = stale_held put found old.tree mid enters.held enters.puts row row_is in
          let entry = is.indexed row.0 row.1 both.1 in
          (both.0, (entry.0, subst (λ (b : ℕ). IsEntryOf (counts_in kept) b entry.0 row.0 row.1) (sym bits_same) entry.1))

  pub ended : Ended old new request found
  ended = record { steps = steps_done; keeps = keeps_done; raises = raises_done; figures = figures_done }

-- where none waits no count moves
pub raises_idle : (counts : Counts) (old : Parts) → None ≡ slice_get old.requests.waiting 0 → Raises counts old old
raises_idle counts old first request waiting front k count has = let both : request ∷ waiting ≡ [] = sym front ∙ none_waits old.requests.waiting first in cc

-- where a record's entry isn't found, or the index takes none, the parts stand as they did
pub keeps_refused : (old : Parts) (log : Log) (tree : Index) (spoilt : Bool) (f : StoreFault) (counts : Counts) (files : Image) (h : ℕ) → AreUsable old → tree ≡ old.tree → AreIndexed counts old → AreThere counts files
    → ((d : Damage) → IsErrOf {T = Turned} (Err f) (fault.Damaged d) → IsDamagedEntry files (entries_of h old.tree.entries) d)
    → KeepsIndex {R = Turned} counts (record { log = log; tree = tree; table = old.table; requests = old.requests; stats = old.stats; spoilt = spoilt }) (Err f)
keeps_refused old log tree spoilt f counts files h usable same is there damaged = record {
  indexed = λ unspoilt. subst (λ (i : Index). IsIndexed counts old.table i old.requests.waiting) (sym same) is;
  undamaged = λ d err. none_damaged counts files old.table old.tree old.requests.waiting is there usable.ordered h d (damaged d err);
}

-- and so do their parts
pub steps_refused : (old : Parts) (usable : AreUsable old) (log : Log) (tree : Index) (spoilt : Bool) (f : StoreFault) → files_of log ≡ with_spoilt (files_of old.log) (spoils {R = Entered} (Err f)) → spoilt ≡ is_spoilt_log (files_of log) → tree ≡ old.tree
    → StepsIndex old (record { log = log; tree = tree; table = old.table; requests = old.requests; stats = old.stats; spoilt = spoilt }) (Err f)
steps_refused old usable log tree spoilt f same_log spoilt_is same = record {
  limit = refl;
  bits = ap (λ (i : Index). i.bits) same;
  popped = tt;
  waits = λ unspoilt. refl;
  log = λ unspoilt. files_same unspoilt;
  same_log = as_left (files_of log) (files_of old.log) (spoils {R = Entered} (Err f)) same_log;
  usable = λ unspoilt. usable_still unspoilt;
  unspoilt = tt;
  spoilt = faulted f same_log spoilt_is;
  sizes = λ unspoilt. refl;
  moved = λ unspoilt. unmoved old (record { log = log; tree = tree; table = old.table; requests = old.requests; stats = old.stats; spoilt = spoilt }) same refl;
  applied = tt;
}
  where
    spoils_is : spoilt ≡ spoils {R = Entered} (Err f)
    spoils_is = spoilt_is ∙ ap is_spoilt_log same_log

    files_same : spoilt ≡ false → files_of log ≡ files_of old.log
    files_same unspoilt = same_log ∙ ap (λ (b : Bool). with_spoilt (files_of old.log) b) (sym spoils_is ∙ unspoilt) ∙ sym (as_sound (files_of old.log) usable.log.sound)

    usable_still : spoilt ≡ false → AreUsable (record { log = log; tree = tree; table = old.table; requests = old.requests; stats = old.stats; spoilt = spoilt })
    usable_still unspoilt = record {
      unspoilt = unspoilt;
      log = subst (λ (l : LogFiles). IsUsable l) (sym (files_same unspoilt)) usable.log;
      main = ap store_of (files_same unspoilt) ∙ usable.main;
      bits = subst (λ (i : Index). i.bits ≤ 32) (sym same) usable.bits;
      same_bits = usable.same_bits ∙ sym (ap (λ (i : Index). i.bits) same);
      some = usable.some;
      within = usable.within;
      ordered = subst (λ (i : Index). AreOrdered i.entries) (sym same) usable.ordered;
      indexed = λ at value here. usable.indexed at value (ap (λ (i : Index). value_at i.entries at) (sym same) ∙ here);
      placed = usable.placed;
      requested = usable.requested;
    }

    faulted : (g : StoreFault) → files_of log ≡ with_spoilt (files_of old.log) (spoils {R = Entered} (Err g)) → spoilt ≡ is_spoilt_log (files_of log) → (spoilt ≡ true) ⊎ IsErrOf {T = Turned} (Err g) fault.Memory
    faulted fault.Memory is_log is = inr refl
    faulted fault.Failed is_log is = inl (is ∙ ap is_spoilt_log is_log)
    faulted (fault.Spent s) is_log is = inl (is ∙ ap is_spoilt_log is_log)
    faulted (fault.Damaged d) is_log is = inl (is ∙ ap is_spoilt_log is_log)

-- where the index and the figures stay, they are right as before
pub figured_still : (kept : Kept) (old : Parts) (log : Log) (tree : Index) (spoilt : Bool) → tree ≡ old.tree → AreFigured kept old → AreFigured kept (record { log = log; tree = tree; table = old.table; requests = old.requests; stats = old.stats; spoilt = spoilt })
figured_still kept old log tree spoilt same figured = record { rows = subst (λ (i : Index). All (IsFigured kept i) old.stats.rows) (sym same) figured.rows; apart = figured.apart; listed = figured.listed }

-- where the stale entry couldn't be taken out, the parts are spoilt
pub steps_spoilt : (old : Parts) (log : Log) (tree : Index) (f : StoreFault) → files_of log ≡ with_spoilt (files_of old.log) false → tree.bits ≡ old.tree.bits
    → StepsIndex old (record { log = log; tree = tree; table = old.table; requests = old.requests; stats = old.stats; spoilt = true }) (Err f)
steps_spoilt old log tree f same_log bits = record {
  limit = refl;
  bits = bits;
  popped = tt;
  waits = λ unspoilt. refl;
  log = λ unspoilt. cc;
  same_log = as_left (files_of log) (files_of old.log) false same_log;
  usable = λ unspoilt. (let never : true ≡ false = unspoilt in cc);
  unspoilt = tt;
  spoilt = inl refl;
  sizes = λ unspoilt. refl;
  moved = λ unspoilt. (let never : true ≡ false = unspoilt in cc);
  applied = tt;
}
