use Rattle.std.proofs.Common.{◌≡◌, ℕ, List, Some}
use Rattle.std.specs.BTreeMap.{Updates}
use Rattle.store_trait.specs.Places.{hashed, place_cmp}
use Rattle.store_trait.specs.declared.entries.Room.TheVariants.{Empty}
use Rattle.store_trait.proofs.Rooms.{has_room, seated}
use Rattle.std.proofs.Common.{subst, sym, ◌∙◌, ap}
use Rattle.store_trait.specs.declared.entries.HashedKey.{HashedKey}
use Rattle.cache_model.specs.Hash.{hash}
use Rattle.store_trait.proofs.entries.Entries.seat.Goals as goal

-- src/entries.rt:151:13
pub returns-then-contains_key-clause-seat : goal.returns-then-contains_key-clause-seat
returns-then-contains_key-clause-seat c =
    let place : HashedKey = c.in_ok-place.place in
    let at : place ≡ hashed c.self.inside.bits c.args.key.now = c.in_ok-place.ensures.hashed in
    let is : place.hash ≡ hash c.self.inside.bits place.key = ap (λ (p : HashedKey). p.hash) at ∙ sym (ap (λ (p : HashedKey). hash c.self.inside.bits p.key) at) in
    rw (← c.self.view_is)
    (record { hash = is; has = has_room c.self.inside place c.self.invariant is (sym c.contains_key.ensures ∙ c.if-contains_key.true) }, ap (λ (p : HashedKey). p.key) at)

pub invariant_of-self-2 : goal.invariant_of-self-2
invariant_of-self-2 c =
    let place : HashedKey = c.in_ok-place.place in
    let at : place ≡ hashed c.self.inside.bits c.args.key.now = c.in_ok-place.ensures.hashed in
    let is : place.hash ≡ hash c.self.inside.bits place.key = ap (λ (p : HashedKey). p.hash) at ∙ sym (ap (λ (p : HashedKey). hash c.self.inside.bits p.key) at) in
    let updates : Updates place_cmp c.self.inside.rooms c.put_room.new.rooms place (Some Empty) = subst (λ (key : List ℕ). Updates place_cmp c.self.inside.rooms c.put_room.new.rooms (record { hash = place.hash; key = key }) (Some Empty)) c.in_ok-copy.ensures.equal c.in_ok-put_room.ensures.put in
    let so = seated c.self.inside c.put_room.new.rooms place c.self.invariant is (sym c.contains_key.ensures ∙ c.if-contains_key.false) updates c.put_room.ensures.ordered in
    so.0

pub returns-clause-seat : goal.returns-clause-seat
returns-clause-seat c =
    let place : HashedKey = c.in_ok-place.place in
    let at : place ≡ hashed c.self.inside.bits c.args.key.now = c.in_ok-place.ensures.hashed in
    let is : place.hash ≡ hash c.self.inside.bits place.key = ap (λ (p : HashedKey). p.hash) at ∙ sym (ap (λ (p : HashedKey). hash c.self.inside.bits p.key) at) in
    let updates : Updates place_cmp c.self.inside.rooms c.put_room.new.rooms place (Some Empty) = subst (λ (key : List ℕ). Updates place_cmp c.self.inside.rooms c.put_room.new.rooms (record { hash = place.hash; key = key }) (Some Empty)) c.in_ok-copy.ensures.equal c.in_ok-put_room.ensures.put in
    let so = seated c.self.inside c.put_room.new.rooms place c.self.invariant is (sym c.contains_key.ensures ∙ c.if-contains_key.false) updates c.put_room.ensures.ordered in
    (record { hash = is; has = so.1.seated }, ap (λ (p : HashedKey). p.key) at)

pub returns-clause-held : goal.returns-clause-held
returns-clause-held c =
    let place : HashedKey = c.in_ok-place.place in
    let at : place ≡ hashed c.self.inside.bits c.args.key.now = c.in_ok-place.ensures.hashed in
    let is : place.hash ≡ hash c.self.inside.bits place.key = ap (λ (p : HashedKey). p.hash) at ∙ sym (ap (λ (p : HashedKey). hash c.self.inside.bits p.key) at) in
    let updates : Updates place_cmp c.self.inside.rooms c.put_room.new.rooms place (Some Empty) = subst (λ (key : List ℕ). Updates place_cmp c.self.inside.rooms c.put_room.new.rooms (record { hash = place.hash; key = key }) (Some Empty)) c.in_ok-copy.ensures.equal c.in_ok-put_room.ensures.put in
    let so = seated c.self.inside c.put_room.new.rooms place c.self.invariant is (sym c.contains_key.ensures ∙ c.if-contains_key.false) updates c.put_room.ensures.ordered in
    rw (← c.self.view_is) so.1.held

pub returns-clause-others : goal.returns-clause-others
returns-clause-others c =
    let place : HashedKey = c.in_ok-place.place in
    let at : place ≡ hashed c.self.inside.bits c.args.key.now = c.in_ok-place.ensures.hashed in
    let is : place.hash ≡ hash c.self.inside.bits place.key = ap (λ (p : HashedKey). p.hash) at ∙ sym (ap (λ (p : HashedKey). hash c.self.inside.bits p.key) at) in
    let updates : Updates place_cmp c.self.inside.rooms c.put_room.new.rooms place (Some Empty) = subst (λ (key : List ℕ). Updates place_cmp c.self.inside.rooms c.put_room.new.rooms (record { hash = place.hash; key = key }) (Some Empty)) c.in_ok-copy.ensures.equal c.in_ok-put_room.ensures.put in
    let so = seated c.self.inside c.put_room.new.rooms place c.self.invariant is (sym c.contains_key.ensures ∙ c.if-contains_key.false) updates c.put_room.ensures.ordered in
    rw (← c.self.view_is) so.1.others
