-- The causes of what a run ends with, by the counts of the host and of the script's source.
use Rattle.std.specs.Prelude.{◌≡◌, ◌⊎◌, ℕ, Result, MatchResult}
use Rattle.cache_model.specs.declared.replies.Status.{Status}
use Rattle.cache_model.specs.declared.replies.Status.TheVariants as status
use Rattle.cache_disk.specs.State.{HostState, Rose}

-- neither the disk nor saying failed
abbrev pub Unfaulted : HostState → HostState → Type 0
Unfaulted from to = (to.disk_faults ≡ from.disk_faults) × (to.say_faults ≡ from.say_faults)

-- A failure is answered only where its count rose, and then no other count did; no other status is answered where one
-- rose. By settings that are handed in, no run ends with Settings.
abbrev pub CauseOf : Status → HostState → HostState → ℕ → ℕ → Type 0
CauseOf status.DiskFailed from to faults_from faults_to = Rose from.disk_faults to.disk_faults × (to.say_faults ≡ from.say_faults) × (faults_to ≡ faults_from)
CauseOf status.SayFailed from to faults_from faults_to = Rose from.say_faults to.say_faults × (to.disk_faults ≡ from.disk_faults) × (faults_to ≡ faults_from)
CauseOf status.ScriptFailed from to faults_from faults_to = Rose faults_from faults_to × Unfaulted from to
CauseOf status.Done from to faults_from faults_to = Unfaulted from to × (faults_to ≡ faults_from)
CauseOf status.Usage from to faults_from faults_to = Unfaulted from to × (faults_to ≡ faults_from)
CauseOf status.Settings from to faults_from faults_to = ⊥
CauseOf status.Damaged from to faults_from faults_to = Unfaulted from to × (faults_to ≡ faults_from)
CauseOf status.NoMemory from to faults_from faults_to = Unfaulted from to × (faults_to ≡ faults_from)
CauseOf status.Spent from to faults_from faults_to = Unfaulted from to × (faults_to ≡ faults_from)
CauseOf status.LinesSpent from to faults_from faults_to = Unfaulted from to × (faults_to ≡ faults_from)

-- the same of a run that reads its settings itself: with wrong settings no count rose
abbrev pub WholeCauseOf : Status → HostState → HostState → ℕ → ℕ → Type 0
WholeCauseOf ended from to faults_from faults_to = ((ended ≡ status.Settings) × Unfaulted from to × (faults_to ≡ faults_from)) ⊎ CauseOf ended from to faults_from faults_to

-- what a call of a session or of the output may end a run with, and its cause
abbrev pub HostCauseOf : Status → HostState → HostState → Type 0
HostCauseOf status.DiskFailed from to = Rose from.disk_faults to.disk_faults × (to.say_faults ≡ from.say_faults)
HostCauseOf status.SayFailed from to = Rose from.say_faults to.say_faults × (to.disk_faults ≡ from.disk_faults)
HostCauseOf status.NoMemory from to = Unfaulted from to
HostCauseOf status.Spent from to = Unfaulted from to
HostCauseOf status.Damaged from to = Unfaulted from to
HostCauseOf status.Usage from to = Unfaulted from to
HostCauseOf status.Done from to = ⊥
HostCauseOf status.Settings from to = ⊥
HostCauseOf status.ScriptFailed from to = ⊥
HostCauseOf status.LinesSpent from to = ⊥

-- a call that answers Ok raised no count, and one that ends the run has its cause
abbrev pub HasHostCause : {T : Type 0} → HostState → HostState → Result T Status → Type 0
HasHostCause from to result = MatchResult result (λ _. Unfaulted from to) (λ ended. HostCauseOf ended from to)

-- likewise for a call that takes lines too
abbrev pub HasCause : {T : Type 0} → HostState → HostState → ℕ → ℕ → Result T Status → Type 0
HasCause from to faults_from faults_to result = MatchResult result (λ _. Unfaulted from to × (faults_to ≡ faults_from)) (λ ended. CauseOf ended from to faults_from faults_to)
