-- Ends of frames are passed over on the way to the next record.
use Rattle.std.proofs.Common.{◌≡◌, ℕ, true, false, Bool, List, [], ◌∷◌, cond, Option, Some, None, refl, sym, ◌∙◌, ap, subst}
use Rattle.std.specs.Prelude.{unwrap_or, Ok, Err, Result}
use Rattle.cache_model.specs.declared.faults.StoreFault.{StoreFault}
use Rattle.cache_model.specs.declared.files.FileName.{FileName}
use Rattle.cache_model.specs.Files.{bytes_in}
use Rattle.cache_model.specs.DataFiles.{Found}
use Rattle.cache_disk.specs.State.{HostState, Stands}
use Rattle.cache_disk.proofs.Runs.{Stands-same, Stands-trans}
use Rattle.record_format.specs.Meaning.{own_item}
use Rattle.data_file.specs.declared.scan.Scan.{Scan}
use Rattle.data_file.specs.declared.scan.Scanned.{Scanned}
use Rattle.data_file.specs.Scanning.{HasGiven, HasGoneOn, IsScanOf, scanned_name}
use Rattle.compactor.specs.Passing.{IsSoundRest, Passes, records_in, records_left}
use Rattle.compactor.specs.Recounting.{is_record}

-- No record was met yet: what is left has the same records.
pub record IsPassing (old now : Scan) (a b : HostState) : Type 0 where
  pub stands : Stands a b
  pub scans : IsScanOf now (bytes_in a.files (scanned_name old))
  pub same : records_left old (bytes_in a.files (scanned_name old)) ≡ records_left now (bytes_in a.files (scanned_name old))
  pub sound : IsSoundRest old (bytes_in a.files (scanned_name old)) → IsSoundRest now (bytes_in a.files (scanned_name old))

-- the bytes of the file, by the name that the scan has now
same_bytes : (a b : HostState) (name same : FileName) → same ≡ name → Stands a b → bytes_in b.files same ≡ bytes_in a.files name
same_bytes a b name same is stands = ap (λ (n : FileName). bytes_in b.files n) is ∙ ap (λ (f : Option (List ℕ)). unwrap_or f []) (stands.files name)

module _ (old now new : Scan) (a b d : HostState) (passing : IsPassing old now a b) (name : scanned_name now ≡ scanned_name old) where
  abbrev file : List ℕ
  file = bytes_in a.files (scanned_name old)

  given_here : (result : Result (Option Scanned) StoreFault) → HasGoneOn now new b d result → HasGiven now new file result
  given_here result on = subst (λ (bytes : List ℕ). HasGiven now new bytes result) (same_bytes a b (scanned_name old) (scanned_name now) name passing.stands) on.given

  -- an end was passed over
  pub passing_on : (one : Scanned) → is_record (own_item one.item) ≡ false → HasGoneOn now new b d (Ok (Some one)) → IsPassing old new a d
  passing_on one is_end on =
      let given = given_here (Ok (Some one)) on in
      record {
        stands = Stands-trans a b d passing.stands on.stands;
        scans = given.scans;
        same = passing.same ∙ ap (λ (f : Found). records_in f) given.given
            ∙ ap (λ (c : Bool). cond c ((one.place.at, own_item one.item) ∷ records_left new file) (records_left new file)) is_end;
        sound = λ sound. sym (ap (λ (f : Found). f.damage) given.given) ∙ passing.sound sound;
      }

  -- a record was met
  pub passed_to : (one : Scanned) → is_record (own_item one.item) ≡ true → HasGoneOn now new b d (Ok (Some one)) → Passes old new a d (Ok (Some one))
  passed_to one is_one on =
      let given = given_here (Ok (Some one)) on in
      record {
        stands = Stands-trans a b d passing.stands on.stands;
        scans = given.scans;
        given = passing.same ∙ ap (λ (f : Found). records_in f) given.given
            ∙ ap (λ (c : Bool). cond c ((one.place.at, own_item one.item) ∷ records_left new file) (records_left new file)) is_one;
        sound = λ sound. sym (ap (λ (f : Found). f.damage) given.given) ∙ passing.sound sound;
        undamaged = λ sound d' err. cc;
      }

  -- none is left
  pub passed_all : HasGoneOn now new b d (Ok None) → Passes old new a d (Ok None)
  passed_all on =
      let given = given_here (Ok None) on in
      record {
        stands = Stands-trans a b d passing.stands on.stands;
        scans = given.scans;
        given = passing.same ∙ ap (λ (f : Found). records_in f) given.given.0;
        sound = λ sound. ap (λ (f : Found). f.damage) given.given.1;
        undamaged = λ sound d' err. cc;
      }

  -- or reading failed
  pub passed_none : (f : StoreFault) → HasGoneOn now new b d (Err f) → Passes old new a d (Err f)
  passed_none f on =
      let given = given_here (Err f) on in
      record {
        stands = Stands-trans a b d passing.stands on.stands;
        scans = tt;
        given = tt;
        sound = λ sound. tt;
        undamaged = λ sound damage err.
            let no : None ≡ Some (damage.at, damage.kind) = sym (passing.sound sound) ∙ ap (λ (r : Found). r.damage) (given.damage.first damage err) in cc;
      }

pub passing_first : (scan : Scan) (a : HostState) → IsScanOf scan (bytes_in a.files (scanned_name scan)) → IsPassing scan scan a a
passing_first scan a scans = record { stands = Stands-same a; scans = scans; same = refl; sound = λ sound. sound }
