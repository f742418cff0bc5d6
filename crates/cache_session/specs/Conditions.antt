-- Changes that are made only where something holds of their key.
use Rattle.std.specs.Prelude.{◌≡◌, ℕ, Bool, List, [], ◌∷◌, Option, Some, None, Result, IfOk, if◌then◌else◌}
use Rattle.std.specs.Str.{bytes_eq}
use Rattle.cache_model.specs.declared.entries.Entry.{Entry}
use Rattle.cache_model.specs.declared.entries.Change.{Change}
use Rattle.cache_model.specs.declared.faults.StoreFault.{StoreFault}
use Rattle.cache_model.specs.declared.replies.Reply.{Reply}
use Rattle.cache_model.specs.declared.replies.Reply.TheVariants.{Done, Kept, Nothing, Differs}
use Rattle.cache_disk.specs.State.{HostState}
use Rattle.store_trait.specs.Meaning.{read_in, seen, key_of, StoreFacts, StoreState}
use Rattle.cache_session.specs.declared.conditions.Condition.{Condition}
use Rattle.cache_session.specs.declared.conditions.Condition.TheVariants.{Unseen, Visible, HasValue}
use Rattle.cache_session.specs.Turns.{Did, by_changes}

-- why a condition doesn't hold of a key's visible entry, none where it holds
abbrev pub refusal : Condition → Option Entry → Option Reply
refusal Unseen None = None
refusal Unseen (Some entry) = Some Kept
refusal Visible None = Some Nothing
refusal Visible (Some entry) = None
refusal (HasValue value) None = Some Nothing
refusal (HasValue value) (Some entry) = if bytes_eq entry.value value then None else Some Differs

-- the changes that are made where a change is refused so
abbrev pub changes_where : Option Reply → Change → List Change
changes_where None change = change ∷ []
changes_where (Some reply) change = []

-- the reply to a change that is refused so
abbrev pub reply_where : Option Reply → Reply
reply_where None = Done
reply_where (Some reply) = reply

-- The change was made where the condition holds of its key, and else nothing.
pub record WroteWhere (condition : Condition) (change : Change) (f g : StoreFacts) (spoilt : Bool) (old new : StoreState) (before after : HostState) (moment : ℕ) (result : Result Reply StoreFault) : Type 0 where
  pub did : Did by_changes f g spoilt old new before after moment (changes_where (refusal condition (seen moment (read_in old.content (key_of change)))) change) result
  pub reply : IfOk result (λ reply. reply ≡ reply_where (refusal condition (seen moment (read_in old.content (key_of change)))))
