-- How a run begins: a store is opened, and nothing was said.
use Rattle.std.specs.Prelude.{◌≡◌, ◌⊎◌, ℕ, ◌≤◌, Bool, false, List, [], Some, Result, OnOk, IfErr}
use Rattle.cache_model.specs.declared.replies.Status.{Status}
use Rattle.cache_model.specs.Plain.{Plain}
use Rattle.cache_disk.specs.State.{HostState}
use Rattle.store_trait.specs.Meaning.{Numbers}
use Rattle.store_trait.specs.Keeping.{IsOnly}
use Rattle.cache_cli.specs.Fitting.{IsOpening}
use Rattle.cache_cli.specs.Talk.{Course, Talk, HasRead, IsTalk}
use Rattle.cache_cli.specs.Ends.{EndsWhole}
use Rattle.cache_cli.specs.Parts.{rows_of, no_parts, FollowsParts}
use Rattle.cache_cli.specs.Run.{View, EndsSaying, EndsBy, HoldsSince}

-- the talk of a run that said nothing yet
abbrev pub first_talk : Plain → Numbers → Talk
first_talk opening first = record { opening = opening; first = first; answered = []; responses = []; ended = false }

-- A session was opened, and nothing was said: it stands for the plain map that the files say, only its content is
-- possible, and it goes on with the next numbers and without parts.
pub record Begins (course : Course) (ordered : Bool) (now : View) : Type 0 where
  pub opening : Plain
  pub first : Numbers
  pub is_talk : IsTalk (HasRead course now.host) (first_talk opening first) course course.lines
  pub since : course.since ≤ now.host.turn
  pub silent : now.host.said now.host.turn ≡ course.said
  pub stands : now.store.stands
  pub sound : now.store.sound
  pub is_opening : IsOpening opening now.store.content
  pub settled : (key : List ℕ) → IsOnly now.facts now.store now.host.turn key
  pub moment : opening.moment ≡ now.moment
  pub numbers : now.facts.numbers ≡ Some first
  pub drawn : now.facts.drawn ≤ first.sequence
  pub made : now.facts.made ≤ first.file
  pub follows : FollowsParts course.pace now.facts
  pub parts : now.facts.parts ≡ rows_of no_parts
  pub firm : now.facts.firm ≡ course.synced
  pub is_ordered : now.facts.ordered ≡ ordered

-- The script was answered to its end, or the run ended, maybe before anything was said.
pub record Finished (from : HostState) (course : Course) (ordered : Bool) (now : View) (result : Result (Unit {0}) Status) : Type 0 where
  pub whole : OnOk result (EndsWhole course now.host)
  pub ends : IfErr result (λ ended. EndsSaying ended from now.host ⊎ EndsBy ended course now)
  pub holds : HoldsSince from course ordered now
