-- How a run reads what a crash left of the one before.
use Rattle.std.specs.Prelude.{◌≡◌, Bool, ℕ, ◌≤◌, List, length, ◌++◌}
use Rattle.std.specs.FinMap.{get}
use Rattle.cache_model.specs.Plain.{Plain, visible_at, visible_entry}
use Rattle.cache_model.specs.Changes.{changes_of, entry_after}
use Rattle.cache_cli.specs.Fitting.{promised_of}
use Rattle.cache_cli.specs.Talk.{Talk, done_in, is_over, hand_of}

-- In a plain map a key is visible as it is, at the map's moment, after so many of its changes: a prefix of those by the
-- commands that a talk answered and the one in hand, which holds every change that an answer promised.
pub record ReadsOn (synced : Bool) (talk : Talk) (left : List (List ℕ)) (plain : Plain) (key : List ℕ) : Type 0 where
  pub count : ℕ
  pub holds : promised_of synced talk.opening (done_in talk) key ≤ count
  pub within : count ≤ length (changes_of talk.opening (done_in talk ++ hand_of (is_over talk) left) key)
  pub reads : visible_entry plain key ≡ visible_at plain.moment (entry_after (get talk.opening.entries key) (changes_of talk.opening (done_in talk ++ hand_of (is_over talk) left) key) count)
