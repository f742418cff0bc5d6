-- A search for the first key of the records of some entries, record by record.
use Rattle.std.proofs.Common.{◌≡◌, ℕ, ◌+◌, ◌<◌, ◌≤◌, Bool, false, IsTrue, List, [], length, take, drop, get_or, Option, None, refl, sym, ◌∙◌, ap, subst}
use Rattle.std.specs.Prelude.{Result, Ok, unwrap_or}
use Rattle.std.proofs.lemmas.List.{take_all, take_more}
use Rattle.cache_model.specs.declared.faults.StoreFault.{StoreFault}
use Rattle.cache_model.specs.declared.files.Place.{Place}
use Rattle.cache_model.specs.Items.{whole, front}
use Rattle.cache_model.specs.Images.{log_name}
use Rattle.cache_disk.specs.State.{HostState, Stands}
use Rattle.cache_disk.specs.Calls.{HasStoreCause}
use Rattle.cache_disk.proofs.Runs.{Stands-same, Stands-trans}
use Rattle.record_format.specs.declared.items.OwnItem.{OwnItem}
use Rattle.record_format.specs.Meaning.{own_item}
use Rattle.data_file.specs.Fetching.{Fetches}
use Rattle.append_log.specs.declared.log_files.LogFiles.{LogFiles}
use Rattle.append_log.specs.Current.{data_name, store_of}
use Rattle.append_log.specs.Fetching.{with_spoilt}
use Rattle.tree_index.specs.Index.{Entries}
use Rattle.compactor.specs.Finding.{entry_place, entry_front}
use Rattle.compactor.specs.Walking.{IsFirstKey, Seeks, is_above, is_lower, nearer}
use Rattle.compactor.proofs.FirstKey.{first_none, first_more}
use Rattle.compactor.proofs.Searching.{Row, as_sound, kept_log}

abbrev pub IsFirstAbove : HostState → Option (List ℕ) → Entries → Option OwnItem → Type 0
IsFirstAbove a after entries best = IsFirstKey a.files (is_above after) is_lower entries best

-- What a search has come to: the best of the first entries.
pub record Sought (after : Option (List ℕ)) (entries : Entries) (index : ℕ) (best : Option OwnItem) (first now : LogFiles) (tells : Bool) (a b : HostState) : Type 0 where
  pub log : now ≡ first
  pub faults : b.disk_faults ≡ a.disk_faults
  pub says : b.say_faults ≡ a.say_faults
  pub stands : IsTrue tells → Stands a b
  pub best_is : IsTrue tells → IsFirstAbove a after (take index entries) best

-- at the start it has come to nothing
pub sought_none : (after : Option (List ℕ)) (entries : Entries) (first : LogFiles) (tells : Bool) (a : HostState) → Sought after entries 0 None first first tells a a
sought_none after entries first tells a = record {
  log = refl;
  faults = refl;
  says = refl;
  stands = λ told. Stands-same a;
  best_is = λ told. first_none a.files after;
}

module _ (after : Option (List ℕ)) (entries : Entries) (index : ℕ) (best : Option OwnItem) (first now : LogFiles) (tells : Bool) (a b d : HostState) (before : Sought after entries index best first now tells a b)
    (none : Row) (within : index < length entries) (main : store_of first ≡ 0) (place : Place) (placed : place ≡ entry_place (get_or entries index none).0 (get_or entries index none).1) where
  -- the entry in hand
  abbrev row : Row
  row = get_or entries index none

  abbrev FetchesPlace : Result OwnItem StoreFault → Type 0
  FetchesPlace result = Fetches (data_name (store_of now) place.file) place b d result

  -- its record is fetched from its place
  of_row : (result : Result OwnItem StoreFault) → FetchesPlace result → Fetches (log_name row.0.file) (entry_place row.0 row.1) b d result
  of_row result fetches =
      subst (λ (n : ℕ). Fetches (data_name n row.0.file) (entry_place row.0 row.1) b d result) (ap store_of before.log ∙ main)
      (subst (λ (p : Place). Fetches (data_name (store_of now) p.file) p b d result) placed fetches)

  same_front : IsTrue tells → entry_front b.files row.0 row.1 ≡ entry_front a.files row.0 row.1
  same_front told = ap (λ (found : Option (List ℕ)). front (take row.1.length (drop row.0.at (unwrap_or found [])))) ((before.stands told).files (log_name row.0.file))

  -- one entry more is looked at
  pub sought_more : (later : LogFiles) (item : OwnItem) (now_best : Option OwnItem) → first.spoilt ≡ false → later ≡ with_spoilt now false → (IsTrue tells → FetchesPlace (Ok item)) → HasStoreCause {T = OwnItem} b d (Ok item) → now_best ≡ nearer after best item
      → Sought after entries (index + 1) now_best first later tells a d
  sought_more later item now_best sound leaves fetches cause is = record {
    log = kept_log first now later sound before.log leaves ∙ sym (as_sound first sound);
    faults = cause.ok ∙ before.faults;
    says = cause.says ∙ before.says;
    stands = λ told. Stands-trans a b d (before.stands told) (fetches told).stands;
    best_is = λ told. subst (λ (o : Option OwnItem). IsFirstAbove a after (take (index + 1) entries) o) (sym is) (subst (λ (l : Entries). IsFirstAbove a after l (nearer after best item)) (sym (take_more entries index none within)) (first_more a.files after (take index entries) row item (read told) best (before.best_is told)));
  }
    where
      read : IsTrue tells → entry_front a.files row.0 row.1 ≡ whole (own_item item) row.1.length
      read told = sym (same_front told) ∙ (of_row (Ok item) (fetches told)).given

-- all are looked at
pub seek_ends : (after : Option (List ℕ)) (entries : Entries) (index : ℕ) (best : Option OwnItem) (first now : LogFiles) (tells : Bool) (a b : HostState) → Sought after entries index best first now tells a b → length entries ≤ index → IsTrue tells
    → Seeks (IsFirstAbove a after entries) entries a.files (Ok best)
seek_ends after entries index best first now tells a b before all told = record {
  given = subst (λ (l : Entries). IsFirstAbove a after l best) (take_all index entries all) (before.best_is told);
  damaged = λ e err. cc;
}
