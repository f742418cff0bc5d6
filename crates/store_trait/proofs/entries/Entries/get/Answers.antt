use Rattle.store_trait.specs.Places.{reading_of}
use Rattle.store_trait.proofs.Rooms.{reads, room_at}
use Rattle.std.proofs.Common.{sym, ◌∙◌, ap}
use Rattle.store_trait.specs.declared.entries.HashedKey.{HashedKey}
use Rattle.store_trait.proofs.entries.Entries.get.Goals as goal

-- src/entries.rt:139:5
pub returns-clause-held : goal.returns-clause-held
returns-clause-held c = rw (← c.self.view_is)
    (c.held_by.ensures ∙ ap reading_of c.get.ensures.value ∙ ap (λ (p : HashedKey). reading_of (room_at p c.self.inside.rooms.entries)) c.in_ok-place.ensures.hashed
    ∙ sym (reads c.self.inside.bits c.self.inside.rooms.entries c.self.invariant.ordered c.self.invariant.hashed c.args.key.now))
