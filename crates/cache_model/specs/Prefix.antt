-- What a key of an image may read as, after some commands and the one in hand.
use Rattle.std.specs.Prelude.{◌≡◌, ℕ, ◌≤◌, List, length, Option}
use Rattle.std.specs.FinMap.{get}
use Rattle.cache_model.specs.declared.entries.Entry.{Entry}
use Rattle.cache_model.specs.declared.commands.Command.{Command}
use Rattle.cache_model.specs.Files.{Image}
use Rattle.cache_model.specs.Images.{HasEntry, IsMark}
use Rattle.cache_model.specs.Plain.{Plain, visible_at}
use Rattle.cache_model.specs.Changes.{changes_of, entry_after}

-- A key of an image reads, at every moment at which a session can start, as after so many of its changes: a prefix of
-- those by these commands, no shorter than what was promised.
pub record FitsPrefix (image : Image) (opening : Plain) (commands : List Command) (promised : ℕ) (key : List ℕ) : Type 0 where
  pub entry : Option Entry
  pub read : HasEntry image key entry
  pub count : ℕ
  pub holds : promised ≤ count
  pub within : count ≤ length (changes_of opening commands key)
  pub reads : (mark moment : ℕ) → IsMark image mark → mark ≤ moment → visible_at moment entry ≡ visible_at moment (entry_after (get opening.entries key) (changes_of opening commands key) count)
