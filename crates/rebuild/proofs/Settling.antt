-- IsRead data files one after another, and then the names.
use Rattle.std.proofs.Common.{◌≡◌, ℕ, ◌⊎◌, inl, inr, ⊎_elim, List, [], ◌∷◌, ◌++◌, Option, Some, None, Contains, Result, Ok, Err, IsSome, true, false, refl, subst, ◌∙◌}
use Rattle.std.specs.Prelude.{◌↔◌, OnOk}
use Rattle.std.proofs.lemmas.List.Elements.{Contains-push_cases}
use Rattle.cache_model.specs.Files.{Image, file_in}
use Rattle.cache_model.specs.Images.{log_name}
use Rattle.cache_disk.specs.declared.host.HostFault.{HostFault}
use Rattle.cache_disk.specs.State.{HostState, SameFiles, Stands}
use Rattle.cache_disk.specs.Calls.{AllLeft, Stays, Settles, HasNames, Synced, SyncedNames, TakesTurn}
use Rattle.cache_disk.proofs.Runs.{SameFiles-same, SameFiles-trans, Silent-same, Silent-trans, Stands-moves, Stands-silent, started, goes_on, left_after}
use Rattle.rebuild.specs.Listing.{IsSettledAll, SameLogs}
use Rattle.rebuild.specs.Rebuilt.{IsRead}
use Rattle.cache_model.proofs.Members.{among-none}

-- nothing is done yet
pub syncing-none : (a : HostState) → IsRead a a
syncing-none a = record { images = started a SameFiles; files = SameFiles-same a.files; silent = Silent-same a }

-- one more call that stays
pub syncing-more : (a b c : HostState) (answer : Result (Unit {0}) HostFault) → IsRead a b → TakesTurn b c Stays 0 (b.said b.turn) answer → SameFiles b.files c.files → IsRead a c
syncing-more a b c answer ab turn files = record {
  images = goes_on a b c SameFiles SameFiles SameFiles ab.images turn.images
      (λ d m left step. step)
      (λ d e m left first now second. SameFiles-trans d e m first second)
      (λ e m left now step. step);
  files = SameFiles-trans a.files b.files c.files ab.files files;
  silent = Silent-trans a b c ab.images.later turn.images.later ab.silent turn.said;
}

-- a call that changed nothing
pub syncing-stands : (a b c : HostState) → IsRead a b → Stands b c → IsRead a c
syncing-stands a b c ab stands = record {
  images = goes_on a b c SameFiles SameFiles SameFiles ab.images (Stands-moves b c SameFiles stands)
      (λ d m left step. step)
      (λ d e m left first now second. SameFiles-trans d e m first second)
      (λ e m left now step. step);
  files = SameFiles-trans a.files b.files c.files ab.files stands.files;
  silent = Silent-trans a b c ab.images.later (Stands-moves b c SameFiles stands).later ab.silent (Stands-silent b c stands);
}

pub settled-none : (a : HostState) → AllLeft a (IsSettledAll [] a.files)
settled-none a c left n among = absurd (among-none n among)

-- one more file is settled
pub settled-more : (a b c : HostState) (numbers : List ℕ) (n : ℕ) (done : Unit {0})
    → SameFiles a.files b.files
    → AllLeft b (IsSettledAll numbers a.files)
    → Synced (log_name n) b c (Ok done)
    → AllLeft c (IsSettledAll (numbers ++ n ∷ []) a.files)
settled-more a b c numbers n done files all synced =
    left_after b c (Settles b.files (log_name n)) (IsSettledAll numbers a.files) (IsSettledAll (numbers ++ n ∷ []) a.files) synced.turn.ok synced.settled all
    (λ d m was step k among. ⊎_elim (λ before. kept d m k step.stays (was k before)) (λ same. here m k same step.settled) (Contains-push_cases numbers n k among))
  where
    kept : (d m : Image) (k : ℕ) → SameFiles d m
        → (file_in d (log_name k) ≡ None) ⊎ (file_in d (log_name k) ≡ file_in a.files (log_name k))
        → (file_in m (log_name k) ≡ None) ⊎ (file_in m (log_name k) ≡ file_in a.files (log_name k))
    kept d m k same (inl none) = inl (same (log_name k) ∙ none)
    kept d m k same (inr is) = inr (same (log_name k) ∙ is)

    here : (m : Image) (k : ℕ) → n ≡ k
        → (file_in m (log_name n) ≡ None) ⊎ (file_in m (log_name n) ≡ file_in b.files (log_name n))
        → (file_in m (log_name k) ≡ None) ⊎ (file_in m (log_name k) ≡ file_in a.files (log_name k))
    here m k same (inl none) = inl (subst (λ x. file_in m (log_name x) ≡ None) same none)
    here m k same (inr is) = inr (subst (λ x. file_in m (log_name x) ≡ file_in a.files (log_name x)) same (is ∙ files (log_name n)))

-- a file that is there just where it is read is as it is read
same-file : (read left : Option (List ℕ)) → (IsSome left ↔ IsSome read) → (IsSome read → (left ≡ None) ⊎ (left ≡ read)) → left ≡ read
same-file None None there either = refl
same-file None (Some bytes) there either = let some : false ≡ true = there.0 refl in cc
same-file (Some bytes) None there either = let some : false ≡ true = there.1 refl in cc
same-file (Some read) (Some left) there either = ⊎_elim (λ none. cc) (λ same. same) (either refl)

-- all data files are settled, and the names
pub settled-names : (a b c : HostState) (numbers : List ℕ) (done : Unit {0})
    → ((n : ℕ) → (Contains numbers n ↔ IsSome (file_in a.files (log_name n))))
    → SameFiles a.files b.files
    → AllLeft b (IsSettledAll numbers a.files)
    → SyncedNames b c (Ok done)
    → AllLeft c (SameLogs a.files)
settled-names a b c numbers done each files all synced =
    left_after b c (HasNames b.files) (IsSettledAll numbers a.files) (SameLogs a.files) synced.turn.ok synced.settled all
    (λ d m was step n.
    let name = log_name n in
    let there : IsSome (file_in m name) ↔ IsSome (file_in a.files name) = subst (λ (f : Option (List ℕ)). IsSome (file_in m name) ↔ IsSome f) (files name) (step.names name) in
    same-file (file_in a.files name) (file_in m name) there
    (λ read. ⊎_elim (λ none. inl (step.stays name ∙ none)) (λ is. inr (step.stays name ∙ is)) (was n ((each n).1 read))))

pub settled-names-if : (a b c : HostState) (numbers : List ℕ) (answer : Result (Unit {0}) HostFault)
    → ((n : ℕ) → (Contains numbers n ↔ IsSome (file_in a.files (log_name n))))
    → SameFiles a.files b.files
    → AllLeft b (IsSettledAll numbers a.files)
    → SyncedNames b c answer
    → OnOk answer (AllLeft c (SameLogs a.files))
settled-names-if a b c numbers (Ok done) each files all synced = settled-names a b c numbers done each files all synced
settled-names-if a b c numbers (Err fault) each files all synced = tt
