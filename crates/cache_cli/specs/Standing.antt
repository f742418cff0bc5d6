-- A run between two commands: what its store may be left with fits its log.
use Rattle.std.specs.Prelude.{◌≡◌, ℕ, ◌≤◌, Bool, true, List, take, length}
use Rattle.cache_model.specs.declared.entries.Change.{Change}
use Rattle.cache_model.specs.declared.commands.Command.{Command}
use Rattle.cache_model.specs.Plain.{Plain, plain_after_all}
use Rattle.store_trait.specs.Meaning.{Reading, Content, read_in, IsAlike, StoreFacts, StoreState}
use Rattle.store_trait.specs.Keeping.{IsOnly}
use Rattle.cache_session.specs.Changing.{after_all, of_key, Shows}
use Rattle.cache_cli.specs.Fitting.{promised_of, IsLog}

-- A reading is as after the first so many of the changes in a log, among them the promised ones of its key.
pub record Fit (promised : List ℕ → ℕ) (log : List Change) (base : Content) (key : List ℕ) (r : Reading) (mark : ℕ) : Type 0 where
  pub count : ℕ
  pub within : count ≤ length log
  pub holds : promised key ≤ length (of_key key (take count log))
  pub alike : IsAlike (Unit {0}) mark r (read_in (after_all (take count log) base) key)

-- The same of all keys together.
pub record FitAll (promised : List ℕ → ℕ) (log : List Change) (base c : Content) (mark : ℕ) : Type 0 where
  pub count : ℕ
  pub within : count ≤ length log
  pub holds : (key : List ℕ) → promised key ≤ length (of_key key (take count log))
  pub alike : (key : List ℕ) → IsAlike (Unit {0}) mark (read_in c key) (read_in (after_all (take count log) base) key)

-- The content is alike to that at the opening with a log of the commands that were done, at the plain map's moment and at
-- the mark of each pair that may be left, and it shows the plain map after them. What a crash may leave now fits that log.
-- Where each write is synced nothing but the content is possible.
pub record Standing (plain : Plain) (done : List Command) (synced orderly : Bool) (g : StoreFacts) (base : Content) (now : StoreState) (turn : ℕ) : Type 0 where
  pub log : List Change
  pub is_log : IsLog plain done log
  pub kept : (key : List ℕ) → IsAlike (Unit {0}) (plain_after_all plain done).moment (read_in now.content key) (read_in (after_all log base) key)
  pub at_marks : (key : List ℕ) (r : Reading) (mark : ℕ) → now.may turn key r mark → IsAlike (Unit {0}) mark (read_in now.content key) (read_in (after_all log base) key)
  pub shows : Shows (plain_after_all plain done) now.content
  pub each : (key : List ℕ) (r : Reading) (mark : ℕ) → now.may turn key r mark → Fit (promised_of synced plain done) log base key r mark
  pub whole : orderly ≡ true → (c : Content) (mark : ℕ) → now.whole turn c mark → FitAll (promised_of synced plain done) log base c mark
  pub settled : synced ≡ true → (key : List ℕ) → IsOnly g now turn key
  pub firm : g.firm ≡ synced
  pub is_ordered : g.ordered ≡ orderly
