-- A search among entries of the index, record by record.
use Rattle.std.proofs.Common.{◌≡◌, ℕ, ◌+◌, ◌<◌, ◌≤◌, Bool, true, false, IsTrue, List, [], All, length, take, drop, get_or, Option, Some, None, refl, sym, ◌∙◌, ap, subst, arith}
use Rattle.std.specs.Prelude.{Result, Ok, Err, IsErrOf, sum_by, unwrap_or}
use Rattle.std.proofs.lemmas.List.{take_all}
use Rattle.std.proofs.lemmas.List.Elements.{All-more, All-get_or, Contains-get_or}
use Rattle.std.proofs.lemmas.List.Sums.{sum_by_more, sum_by_more_le, sum_by-take-le}
use Rattle.cache_model.specs.declared.faults.StoreFault.{StoreFault}
use Rattle.cache_model.specs.declared.faults.StoreFault.TheVariants as fault
use Rattle.cache_model.specs.declared.files.Place.{Place}
use Rattle.cache_model.specs.declared.index.IndexKey.{IndexKey}
use Rattle.cache_model.specs.declared.index.IndexValue.{IndexValue}
use Rattle.cache_model.specs.Files.{bytes_in}
use Rattle.cache_model.specs.Items.{Front, whole, front}
use Rattle.cache_model.specs.Images.{log_name}
use Rattle.cache_disk.specs.State.{HostState, Rose, Stands}
use Rattle.cache_disk.specs.Calls.{HasStoreCause}
use Rattle.cache_disk.proofs.Runs.{Stands-same, Stands-trans}
use Rattle.record_format.specs.declared.items.OwnItem.{OwnItem}
use Rattle.record_format.specs.Meaning.{own_item}
use Rattle.data_file.specs.Fetching.{Fetches, Lasts, wrong_with}
use Rattle.append_log.specs.declared.log_files.LogFiles.{LogFiles}
use Rattle.append_log.specs.Current.{data_name, store_of}
use Rattle.append_log.specs.Fetching.{spoils_log, with_spoilt}
use Rattle.tree_index.specs.Index.{Entries}
use Rattle.compactor.specs.Finding.{spoils, has_key, entry_place, entry_front, IsOfOther, LieWithin, Searches}

abbrev pub Row : Type 0
Row = IndexKey × IndexValue

abbrev row_length : Row → ℕ
row_length e = e.1.length

-- What a search has come to: the records of the first entries are of other keys.
pub record Searched (key : List ℕ) (entries : Entries) (index : ℕ) (first now : LogFiles) (tells : Bool) (a b : HostState) : Type 0 where
  pub log : now ≡ first
  pub faults : b.disk_faults ≡ a.disk_faults
  pub says : b.say_faults ≡ a.say_faults
  pub stands : IsTrue tells → Stands a b
  pub others : IsTrue tells → All (IsOfOther a.files key) (take index entries)
  pub grown : IsTrue tells → a.asked a.turn ≤ b.asked a.turn
  pub most : IsTrue tells → (Rose a.short_reads b.short_reads → ⊥) → LieWithin a.files entries → b.asked a.turn ≤ a.asked a.turn + sum_by row_length (take index entries)
  pub lasts : IsTrue tells → Lasts a.short_reads b.short_reads

-- at the start it has come to nothing
pub searched_none : (key : List ℕ) (entries : Entries) (first : LogFiles) (tells : Bool) (a : HostState) → Searched key entries 0 first first tells a a
searched_none key entries first tells a = record {
  log = refl;
  faults = refl;
  says = refl;
  stands = λ told. Stands-same a;
  others = λ told k e low. absurd (omega (arith, low));
  grown = λ told. omega arith;
  most = λ told whole_reads lie. omega arith;
  lasts = λ told. omega arith;
}

rose_before : (a b d : ℕ) → Lasts a b → Rose b d → Rose a d
rose_before a b d lasts rose = omega (arith, lasts, rose)

rose_since : (a b d : ℕ) → Rose a b → Lasts b d → Rose a d
rose_since a b d rose lasts = omega (arith, rose, lasts)

lasts_on : (a b d : ℕ) → Lasts a b → Lasts b d → Lasts a d
lasts_on a b d one two = omega (arith, one, two)

-- a log that nothing spoilt stays as it is
pub as_sound : (first : LogFiles) → first.spoilt ≡ false → first ≡ with_spoilt first false
as_sound first sound = ap (λ (s : Bool). with_spoilt first s) sound

pub kept_log : (first now later : LogFiles) → first.spoilt ≡ false → now ≡ first → later ≡ with_spoilt now false → later ≡ with_spoilt first false
kept_log first now later sound same leaves = leaves ∙ ap (λ (l : LogFiles). with_spoilt l false) same

spoils_alike : (T : Type 0) (f : StoreFault) → spoils_log (Err f) ≡ spoils {R = T} (Err f)
spoils_alike T fault.Failed = refl
spoils_alike T fault.Memory = refl
spoils_alike T (fault.Spent s) = refl
spoils_alike T (fault.Damaged d) = refl

-- a fetch that failed spoils the log as the search does
pub failed_log : (T : Type 0) (first now later : LogFiles) (f : StoreFault) → now ≡ first → later ≡ with_spoilt now (spoils_log (Err f)) → later ≡ with_spoilt first (spoils {R = T} (Err f))
failed_log T first now later f same leaves = leaves ∙ ap (λ (l : LogFiles). with_spoilt l (spoils_log (Err f))) same ∙ ap (λ (s : Bool). with_spoilt first s) (spoils_alike T f)

-- a fault is the same, whatever the answer would have been
pub same_fault : {T U : Type 0} (f e : StoreFault) → IsErrOf {T = T} (Err f) e → IsErrOf {T = U} (Err f) e
same_fault {T = T} {U = U} f e is = let same : f ≡ e = cc in ap (λ (x : StoreFault). Err x) same

-- a search ends without a fault as its last fetch did
pub found_cause : {R T : Type 0} (a b d : HostState) (given : R) (found : T) → b.disk_faults ≡ a.disk_faults → b.say_faults ≡ a.say_faults → HasStoreCause {T = R} b d (Ok given) → HasStoreCause {T = T} a d (Ok found)
found_cause a b d given found faults says cause = record {
  failed = λ err. cc;
  ok = cause.ok ∙ faults;
  memory = λ err. cc;
  spent = λ s err. cc;
  damaged = λ e err. cc;
  later = omega (arith, cause.later, faults);
  says = cause.says ∙ says;
}

-- and with its fault
pub failed_cause : {R T : Type 0} (a b d : HostState) (f : StoreFault) → b.disk_faults ≡ a.disk_faults → b.say_faults ≡ a.say_faults → HasStoreCause {T = R} b d (Err f) → HasStoreCause {T = T} a d (Err f)
failed_cause a b d f faults says cause = record {
  failed = λ err. subst (λ (n : ℕ). Rose n d.disk_faults) faults (cause.failed (same_fault f fault.Failed err));
  ok = tt;
  memory = λ err. cause.memory (same_fault f fault.Memory err) ∙ faults;
  spent = λ s err. cause.spent s (same_fault f (fault.Spent s) err) ∙ faults;
  damaged = λ e err. cause.damaged e (same_fault f (fault.Damaged e) err) ∙ faults;
  later = omega (arith, cause.later, faults);
  says = cause.says ∙ says;
}

module _ (key : List ℕ) (entries : Entries) (index : ℕ) (first now : LogFiles) (tells : Bool) (a b d : HostState) (before : Searched key entries index first now tells a b) (none : Row) (within : index < length entries)
    (main : store_of first ≡ 0) (place : Place) (placed : place ≡ entry_place (get_or entries index none).0 (get_or entries index none).1) where
  -- the entry in hand
  abbrev row : Row
  row = get_or entries index none

  -- its record is fetched from its place
  abbrev FetchesRow : Result OwnItem StoreFault → Type 0
  FetchesRow result = Fetches (log_name row.0.file) (entry_place row.0 row.1) b d result

  abbrev FetchesPlace : Result OwnItem StoreFault → Type 0
  FetchesPlace result = Fetches (data_name (store_of now) place.file) place b d result

  of_row : (result : Result OwnItem StoreFault) → FetchesPlace result → FetchesRow result
  of_row result fetches =
      subst (λ (n : ℕ). Fetches (data_name n row.0.file) (entry_place row.0 row.1) b d result) (ap store_of before.log ∙ main)
      (subst (λ (p : Place). Fetches (data_name (store_of now) p.file) p b d result) placed fetches)

  same_bytes : IsTrue tells → bytes_in b.files (log_name row.0.file) ≡ bytes_in a.files (log_name row.0.file)
  same_bytes told = ap (λ (found : Option (List ℕ)). unwrap_or found []) ((before.stands told).files (log_name row.0.file))

  same_front : IsTrue tells → entry_front b.files row.0 row.1 ≡ entry_front a.files row.0 row.1
  same_front told = ap (λ (bytes : List ℕ). front (take row.1.length (drop row.0.at bytes))) (same_bytes told)

  same_turn : IsTrue tells → b.turn ≡ a.turn
  same_turn told = (before.stands told).turn

  most_on : IsTrue tells → (result : Result OwnItem StoreFault) → FetchesRow result → (Rose a.short_reads d.short_reads → ⊥) → LieWithin a.files entries → d.asked a.turn ≤ a.asked a.turn + sum_by row_length (take index entries) + row.1.length
  most_on told result fetches whole_reads lie =
      let so_far = before.most told (λ rose. whole_reads (rose_since a.short_reads b.short_reads d.short_reads rose fetches.short_reads)) lie in
      let in_file : row.0.at + row.1.length ≤ length (bytes_in b.files (log_name row.0.file)) = rw (same_bytes told) (All-get_or (λ e. e.0.at + e.1.length ≤ length (bytes_in a.files (log_name e.0.file))) entries index none within lie) in
      let more : d.asked b.turn ≤ b.asked b.turn + row.1.length = fetches.most in_file (λ rose. whole_reads (rose_before a.short_reads b.short_reads d.short_reads (before.lasts told) rose)) in
      let at_turn : d.asked a.turn ≤ b.asked a.turn + row.1.length = subst (λ (t : ℕ). d.asked t ≤ b.asked t + row.1.length) (same_turn told) more in
      omega (arith, so_far, at_turn)

  grown_on : IsTrue tells → (item : OwnItem) → FetchesRow (Ok item) → a.asked a.turn + row.1.length ≤ d.asked a.turn
  grown_on told item fetches =
      let at_turn : b.asked a.turn + row.1.length ≤ d.asked a.turn = subst (λ (t : ℕ). b.asked t + row.1.length ≤ d.asked t) (same_turn told) fetches.asked in
      omega (arith, before.grown told, at_turn)

  read_on : IsTrue tells → (item : OwnItem) → FetchesRow (Ok item) → entry_front a.files row.0 row.1 ≡ whole (own_item item) row.1.length
  read_on told item fetches = sym (same_front told) ∙ fetches.given

  -- one entry more is of another key
  pub searched_more : (later : LogFiles) (item : OwnItem) → first.spoilt ≡ false → later ≡ with_spoilt now false → (IsTrue tells → FetchesPlace (Ok item)) → HasStoreCause {T = OwnItem} b d (Ok item) → has_key key (own_item item) ≡ false
      → Searched key entries (index + 1) first later tells a d
  searched_more later item sound leaves fetches cause other = record {
    log = kept_log first now later sound before.log leaves ∙ sym (as_sound first sound);
    faults = cause.ok ∙ before.faults;
    says = cause.says ∙ before.says;
    stands = λ told. Stands-trans a b d (before.stands told) (fetches told).stands;
    others = λ told. All-more (IsOfOther a.files key) entries index none within (before.others told) (record { item = own_item item; read = read_on told item (of_row (Ok item) (fetches told)); other = other });
    grown = λ told. let more = grown_on told item (of_row (Ok item) (fetches told)) in omega (arith, more);
    most = λ told whole_reads lie. omega (arith, most_on told (Ok item) (of_row (Ok item) (fetches told)) whole_reads lie, sum_by_more row_length entries index none within);
    lasts = λ told. lasts_on a.short_reads b.short_reads d.short_reads (before.lasts told) (fetches told).short_reads;
  }

  -- the entry in hand is of the key
  pub search_found : IsTrue tells → (item : OwnItem) → FetchesPlace (Ok item) → has_key key (own_item item) ≡ true → Searches key entries a d (Ok (Some (record { at = row.0; value = row.1; item = item })))
  search_found told item fetches of_key = record {
    stands = Stands-trans a b d (before.stands told) fetches.stands;
    found = (Contains-get_or entries index none within, read_on told item (of_row (Ok item) fetches), of_key);
    damaged = λ e err. cc;
    most = λ whole_reads lie. omega (arith, most_on told (Ok item) (of_row (Ok item) fetches) whole_reads lie, sum_by_more_le row_length entries index none within);
    fetched = grown_on told item (of_row (Ok item) fetches);
  }

  -- its fetch failed
  pub search_failed : IsTrue tells → (f : StoreFault) → FetchesPlace (Err f) → Searches key entries a d (Err f)
  search_failed told f fetches = record {
    stands = Stands-trans a b d (before.stands told) fetches.stands;
    found = tt;
    damaged = λ e err. (row, Contains-get_or entries index none within, ap (λ (x : Front). wrong_with row.1.length x) (sym (same_front told)) ∙ ((of_row (Err f) fetches).damaged e (same_fault f (fault.Damaged e) err)).2);
    most = λ whole_reads lie. omega (arith, most_on told (Err f) (of_row (Err f) fetches) whole_reads lie, sum_by_more_le row_length entries index none within);
    fetched = tt;
  }

-- the records of all entries are of other keys
pub search_none : (key : List ℕ) (entries : Entries) (index : ℕ) (first now : LogFiles) (tells : Bool) (a b : HostState) → Searched key entries index first now tells a b → length entries ≤ index → IsTrue tells → Searches key entries a b (Ok None)
search_none key entries index first now tells a b before all told = record {
  stands = before.stands told;
  found = subst (λ (l : Entries). All (IsOfOther a.files key) l) (take_all index entries all) (before.others told);
  damaged = λ e err. cc;
  most = λ whole_reads lie. omega (arith, before.most told whole_reads lie, sum_by-take-le row_length entries index);
  fetched = omega (arith, before.grown told);
}

-- it ends without a fault of its own
pub none_cause : {T : Type 0} (a b : HostState) (found : T) → b.disk_faults ≡ a.disk_faults → b.say_faults ≡ a.say_faults → HasStoreCause {T = T} a b (Ok found)
none_cause a b found faults says = record {
  failed = λ err. cc;
  ok = faults;
  memory = λ err. cc;
  spent = λ s err. cc;
  damaged = λ e err. cc;
  later = omega (arith, faults);
  says = says;
}
