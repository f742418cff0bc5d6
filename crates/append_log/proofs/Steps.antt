-- What calls do to the images of a log's files.
use Rattle.std.proofs.Common.{◌≡◌, ◌⊎◌, inl, inr, ℕ, ◌+◌, ◌==◌, true, false, Bool, List, [], Option, Some, None, IsSome, is_some, refl, sym, ◌∙◌, subst, arith}
use Rattle.std.proofs.lemmas.Bool.Decides.{nat_tests}
use Rattle.std.specs.Prelude.{Err, IsErrOf}
use Rattle.cache_model.specs.declared.faults.StoreFault.{StoreFault}
use Rattle.cache_model.specs.declared.faults.StoreFault.TheVariants as fault
use Rattle.cache_model.specs.declared.faults.Spent.{Spent}
use Rattle.cache_model.specs.declared.faults.Damage.{Damage}
use Rattle.cache_model.specs.declared.files.FileName.{FileName}
use Rattle.cache_model.specs.Files.{Image, file_in, is_name}
use Rattle.cache_model.specs.Items.{Item}
use Rattle.cache_model.specs.DataFiles.{Frame, CountsFrames}
use Rattle.cache_disk.specs.State.{HostState, Moves, SameBut, Stands}
use Rattle.cache_disk.specs.Calls.{OnFile, AllLeft, HasFile}
use Rattle.cache_disk.proofs.Runs.{goes_on, goes_on_file, weaker, weaker_on_file, Stands-left}
use Rattle.data_file.specs.declared.appender.Appender.{Appender}
use Rattle.data_file.specs.Appending.{IsHostly, CountsOneOf}
use Rattle.data_file.proofs.Frame.{counted_now, stands_still}
use Rattle.append_log.specs.declared.log_files.LogFiles.{LogFiles}
use Rattle.append_log.specs.Current.{data_name, file_of, file_behind, IsNamed, IsLogOf, IsFileOf, IsLogStanding}
use Rattle.append_log.specs.Calls.{CountsIf, OnFiles, SameBeside}

-- names

-- the same number, or another one
pub cases_number : (n m : ℕ) → (n ≡ m) ⊎ (n ≡ m → ⊥)
cases_number n m = by_test (n == m) refl
  where
    by_test : (b : Bool) → (n == m) ≡ b → (n ≡ m) ⊎ (n ≡ m → ⊥)
    by_test true is = inl (grind (arith, nat_tests))
    by_test false is = inr (λ same. grind (arith, nat_tests))

-- a data file with another number has another name
pub other_name : (store file n : ℕ) → (file ≡ n → ⊥) → is_name (data_name store file) (data_name store n) ≡ false
other_name store file n other = by_test (file == n) refl
  where
    by_test : (b : Bool) → (file == n) ≡ b → is_name (data_name store file) (data_name store n) ≡ false
    by_test true is = absurd (other (grind (arith, nat_tests)))
    by_test false is = grind (arith, nat_tests)

-- what writes the current file

-- a file that is made
pub log_made : (store : ℕ) (log : Option Appender) (file : ℕ) (a : HostState) (frames : List Frame) (records : List Item) → is_some log ≡ true → IsFileOf store log file a frames records → IsLogStanding log a frames records
log_made store None file a frames records made is = cc
log_made store (Some log) file a frames records made is = is

pub file_standing : (store : ℕ) (log : Option Appender) (file : ℕ) (b : HostState) (frames : List Frame) (records : List Item) → IsLogStanding log b frames records → IsFileOf store log file b frames records
file_standing store None file b frames records is = absurd is
file_standing store (Some log) file b frames records is = is

pub is_named : (store : ℕ) (log : Option Appender) (file : ℕ) (unsealed : Bool) → IsLogOf store log file unsealed → IsNamed store log file
is_named store None file unsealed usable = tt
is_named store (Some log) file unsealed usable = usable.0

-- the file in each image, where it isn't there yet or counts the frames
pub counts_now : (store : ℕ) (log : Option Appender) (file : ℕ) (a : HostState) (frames : List Frame) (records : List Item) → IsNamed store log file → IsFileOf store log file a frames records
    → AllLeft a (λ image. (bytes : List ℕ) → file_in image (data_name store file) ≡ Some bytes → CountsFrames frames bytes)
counts_now store None file a frames records named is m left bytes there = let no : None ≡ Some bytes = sym (is.2 m left) ∙ there in cc
counts_now store (Some log) file a frames records named is m left bytes there =
    let has : HasFile (data_name store file) (CountsFrames frames) m = subst (λ (name : FileName). HasFile name (CountsFrames frames) m) named (counted_now log a frames records is m left) in
    let both : Some has.bytes ≡ Some bytes = sym has.there ∙ there in
    let one : has.bytes ≡ bytes = cc in
    subst (λ (l : List ℕ). CountsFrames frames l) one has.file

-- a call that changed nothing leaves what the file holds
pub file_still : (store : ℕ) (log : Option Appender) (file : ℕ) (a b : HostState) (frames : List Frame) (records : List Item) → Stands a b → IsFileOf store log file a frames records → IsFileOf store log file b frames records
file_still store None file a b frames records still is = (is.0, is.1, Stands-left a b (λ image. file_in image (data_name store file) ≡ None) still is.2)
file_still store (Some log) file a b frames records still is = stands_still log a frames records is b still

-- runs

-- a run goes on in the same file
pub then_file : (a b d : HostState) (name other : FileName) (P Q : List ℕ → Type 0) → other ≡ name → Moves a b (OnFile name P) → Moves b d (OnFile other Q) → ((bytes : List ℕ) → P bytes → Q bytes) → Moves a d (OnFile name Q)
then_file a b d name other P Q same ab bd less =
    goes_on_file a b d name Q (OnFile name Q) (weaker_on_file a b name P Q ab less) (subst (λ (n : FileName). Moves b d (OnFile n Q)) same bd) (λ e m left step. step)

-- a run over the current file alone
pub on_current : (S : LogFiles) (a b : HostState) (frames more : List Frame) → Moves a b (OnFile (file_of S) (CountsFrames frames)) → Moves a b (OnFiles S false (CountsIf false frames more))
on_current S a b frames more moves =
    weaker a b (OnFile (file_of S) (CountsFrames frames)) (OnFiles S false (CountsIf false frames more)) moves
    (λ d m left step. record { others = λ name apart behind. step.others name apart; stays = step.stays; file = step.file; behind = λ over. let no : false ≡ true = over in cc })

-- the file behind the current one has another name
pub before_name : (S : LogFiles) → is_name (file_behind S) (file_of S) ≡ false
before_name S = other_name S.store (S.file + 1) S.file (λ is. omega (arith, is))

module _ (S : LogFiles) (a : HostState) (frames more : List Frame)
    (none : AllLeft a (λ image. file_in image (file_behind S) ≡ None))
    (counts : AllLeft a (λ image. (bytes : List ℕ) → file_in image (file_of S) ≡ Some bytes → CountsFrames frames bytes)) where
  behind_name : is_name (file_of S) (file_behind S) ≡ false
  behind_name = other_name S.store S.file (S.file + 1) (λ is. omega (arith, is))

  closed_step : (d m : Image) → a.left a.turn d → OnFile (file_of S) (CountsOneOf frames more) d m → OnFiles S true (CountsIf true frames more) d m
  closed_step d m left step = record {
    others = λ name apart behind. step.others name apart;
    stays = step.stays;
    file = step.file;
    behind = λ over bytes there. let no : None ≡ Some bytes = sym (none d left) ∙ sym (step.others (file_behind S) behind_name) ∙ there in cc;
  }

  -- a run that closes the current file
  pub on_closed : (b : HostState) → Moves a b (OnFile (file_of S) (CountsOneOf frames more)) → Moves a b (OnFiles S true (CountsIf true frames more))
  on_closed b moves = weaker a b (OnFile (file_of S) (CountsOneOf frames more)) (OnFiles S true (CountsIf true frames more)) moves closed_step

  -- and then goes on with the next one
  pub on_both : (b d : HostState) → Moves a b (OnFile (file_of S) (CountsOneOf frames more)) → Moves b d (OnFile (file_behind S) (CountsFrames [])) → Moves a d (OnFiles S true (CountsIf true frames more))
  on_both b d ab bd =
      goes_on a b d (OnFile (file_of S) (CountsOneOf frames more)) (OnFile (file_behind S) (CountsFrames [])) (OnFiles S true (CountsIf true frames more)) ab bd
      closed_step
      (λ c e m start first left step. record {
        others = λ name apart behind. step.others name (behind refl) ∙ first.others name apart;
        stays = λ there. subst (λ (found : Option (List ℕ)). IsSome found) (sym (step.others (file_of S) (before_name S))) (first.stays there);
        file = λ bytes there. first.file bytes (sym (step.others (file_of S) (before_name S)) ∙ there);
        behind = λ over. step.file;
      })
      (λ e m start left step. record {
        others = λ name apart behind. step.others name (behind refl);
        stays = λ there. subst (λ (found : Option (List ℕ)). IsSome found) (sym (step.others (file_of S) (before_name S))) there;
        file = λ bytes there. inl (counts e start bytes (sym (step.others (file_of S) (before_name S)) ∙ there));
        behind = λ over. step.file;
      })

-- what is left alone by a call on the current file, and by one on the next one after it
pub beside_current : (S : LogFiles) (over : Bool) (a b : Image) → SameBut (file_of S) a b → SameBeside S over a b
beside_current S over a b same name apart behind = same name apart

pub beside_both : (S : LogFiles) (a b d : Image) → SameBut (file_of S) a b → SameBut (file_behind S) b d → SameBeside S true a d
beside_both S a b d ab bd name apart behind = bd name (behind refl) ∙ ab name apart

-- a run that doesn't close the current file is over that one alone
pub current_alone : (S : LogFiles) (a b : HostState) (frames more : List Frame) → Moves a b (OnFiles S false (CountsIf false frames more)) → Moves a b (OnFile (file_of S) (CountsFrames frames))
current_alone S a b frames more moves =
    weaker a b (OnFiles S false (CountsIf false frames more)) (OnFile (file_of S) (CountsFrames frames)) moves
    (λ d m left step. record { others = λ name apart. step.others name apart (λ over. let no : false ≡ true = over in cc); stays = step.stays; file = step.file })

pub same_alone : (S : LogFiles) (a b : Image) → SameBeside S false a b → SameBut (file_of S) a b
same_alone S a b same name apart = same name apart (λ over. let no : false ≡ true = over in cc)

-- faults

-- a fault of the host is no other one
pub hostly_damaged : {R : Type 0} (f : StoreFault) → IsHostly f → (d : Damage) → IsErrOf {T = R} (Err f) (fault.Damaged d) → ⊥
hostly_damaged f hostly d err = let is : f ≡ fault.Damaged d = cc in subst IsHostly is hostly

pub hostly_spent : {R : Type 0} (f : StoreFault) → IsHostly f → (s : Spent) → IsErrOf {T = R} (Err f) (fault.Spent s) → ⊥
hostly_spent f hostly s err = let is : f ≡ fault.Spent s = cc in subst IsHostly is hostly
