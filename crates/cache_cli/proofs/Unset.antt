-- A run that ended while its settings were read, and a run behind that.
use Rattle.std.proofs.Common.{◌≡◌, ◌⊎◌, inl, inr, ⊎_elim, false, ℕ, List, Option, IsSome, refl, sym, ◌∙◌, subst}
use Rattle.cache_model.specs.declared.replies.Status.{Status}
use Rattle.cache_model.specs.declared.replies.Status.TheVariants as status
use Rattle.cache_model.specs.Files.{Image}
use Rattle.cache_disk.specs.State.{HostState, Rose, SameFiles, Stands}
use Rattle.store_trait.specs.Keeping.{Leaves}
use Rattle.soft_index.specs.Store.{owns_file}
use Rattle.cache_cli.specs.Causes.{Unfaulted, CauseOf, WholeCauseOf}
use Rattle.cache_cli.specs.DirectorySettings.{SettingsCauseOf}
use Rattle.cache_cli.specs.Ends.{Ends, EndsForeign, EndsRefused, EndsUnset}
use Rattle.cache_cli.specs.Foreign.{IsForeign}
use Rattle.cache_cli.specs.Serving.{Serves}
use Rattle.cache_cli.specs.Talk.{Course}
use Rattle.cache_cli.proofs.Running.{leaves_all}
use Rattle.cache_cli.proofs.Serving.{others_all, serves_read, stands_read}

-- the same files have an index or a base file among them
pub foreign_same : (a b : Image) → SameFiles a b → IsForeign b → IsForeign a
foreign_same a b same foreign = (foreign.0, subst (λ (o : Option (List ℕ)). IsSome o) (same foreign.0) foreign.1, foreign.2)

-- what reading the settings ends a run with
pub unset_by : (ended : Status) (from to : HostState) → SettingsCauseOf ended from to → EndsUnset ended
unset_by status.Settings from to cause = inl refl
unset_by status.DiskFailed from to cause = inr (inl refl)
unset_by status.NoMemory from to cause = inr (inr refl)
unset_by status.Done from to cause = absurd cause
unset_by status.Usage from to cause = absurd cause
unset_by status.Damaged from to cause = absurd cause
unset_by status.ScriptFailed from to cause = absurd cause
unset_by status.SayFailed from to cause = absurd cause
unset_by status.Spent from to cause = absurd cause
unset_by status.LinesSpent from to cause = absurd cause

-- where there are settings, it is a fault
pub unread : (ended : Status) (from to : HostState) → SettingsCauseOf ended from to → (ended ≡ status.Settings → ⊥) → (ended ≡ status.DiskFailed) ⊎ (ended ≡ status.NoMemory)
unread ended from to cause set = ⊎_elim (λ is. absurd (set is)) (λ fault. fault) (unset_by ended from to cause)

pub unread_foreign : (ended : Status) → (ended ≡ status.DiskFailed) ⊎ (ended ≡ status.NoMemory) → EndsForeign ended
unread_foreign ended fault = inr fault

pub unread_refused : (ended : Status) → (ended ≡ status.DiskFailed) ⊎ (ended ≡ status.NoMemory) → EndsRefused ended
unread_refused ended = ⊎_elim (λ disk. inr (inl disk)) (λ memory. inr (inr (inr memory)))

-- a run that said nothing and changed nothing
pub unread_serves : (from to : HostState) (course : Course) (ended : Status) → course.said ≡ from.said from.turn → Stands from to
    → (ended ≡ status.DiskFailed) ⊎ (ended ≡ status.NoMemory) → Serves ended from to course
unread_serves from to course ended said stands fault =
    serves_read from to course ended said (stands_read from to stands)
    (λ silent. ⊎_elim (λ disk. subst (λ (s : Status). Ends s course to) (sym disk) (inl silent)) (λ memory. subst (λ (s : Status). Ends s course to) (sym memory) (inl silent)) fault)

-- files that aren't the store's were left alone
pub still_others : (from to : HostState) → Stands from to → Leaves owns_file false from to
still_others from to stands = leaves_all from to owns_file false stands.files (stands_read from to stands).images

pub others_behind : (from mid to : HostState) → Stands from mid → Leaves owns_file false mid to → Leaves owns_file false from to
others_behind from mid to stands others = others_all from mid to owns_file (stands_read from mid stands) others

-- the causes

pub unset_cause : (ended : Status) (from to : HostState) (faults : ℕ) → SettingsCauseOf ended from to → WholeCauseOf ended from to faults faults
unset_cause status.Settings from to faults cause = inl (refl, cause, refl)
unset_cause status.DiskFailed from to faults cause = inr (cause.0, cause.1, refl)
unset_cause status.NoMemory from to faults cause = inr (cause, refl)
unset_cause status.Done from to faults cause = absurd cause
unset_cause status.Usage from to faults cause = absurd cause
unset_cause status.Damaged from to faults cause = absurd cause
unset_cause status.ScriptFailed from to faults cause = absurd cause
unset_cause status.SayFailed from to faults cause = absurd cause
unset_cause status.Spent from to faults cause = absurd cause
unset_cause status.LinesSpent from to faults cause = absurd cause

then_unfaulted : (a b c : HostState) → Unfaulted a b → Unfaulted b c → Unfaulted a c
then_unfaulted a b c first second = (second.0 ∙ first.0, second.1 ∙ first.1)

pub cause_behind : (ended : Status) (a b c : HostState) (from to : ℕ) → Unfaulted a b → CauseOf ended b c from to → CauseOf ended a c from to
cause_behind status.DiskFailed a b c from to first cause = (subst (λ (n : ℕ). Rose n c.disk_faults) first.0 cause.0, cause.1 ∙ first.1, cause.2)
cause_behind status.SayFailed a b c from to first cause = (subst (λ (n : ℕ). Rose n c.say_faults) first.1 cause.0, cause.1 ∙ first.0, cause.2)
cause_behind status.ScriptFailed a b c from to first cause = (cause.0, then_unfaulted a b c first cause.1)
cause_behind status.Settings a b c from to first cause = absurd cause
cause_behind status.NoMemory a b c from to first cause = (then_unfaulted a b c first cause.0, cause.1)
cause_behind status.Done a b c from to first cause = (then_unfaulted a b c first cause.0, cause.1)
cause_behind status.Usage a b c from to first cause = (then_unfaulted a b c first cause.0, cause.1)
cause_behind status.Damaged a b c from to first cause = (then_unfaulted a b c first cause.0, cause.1)
cause_behind status.Spent a b c from to first cause = (then_unfaulted a b c first cause.0, cause.1)
cause_behind status.LinesSpent a b c from to first cause = (then_unfaulted a b c first cause.0, cause.1)

-- a run by settings never ends with Settings
pub never_settings : (ended : Status) (from to : HostState) (faults_from faults_to : ℕ) → CauseOf ended from to faults_from faults_to → ended ≡ status.Settings → ⊥
never_settings ended from to faults_from faults_to cause is = subst (λ (s : Status). CauseOf s from to faults_from faults_to) is cause
