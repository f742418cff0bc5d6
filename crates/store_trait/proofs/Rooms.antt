-- What is held in memory, read by the rooms.
use Rattle.std.proofs.Common.{◌≡◌, ℕ, Bool, true, false, List, [], ◌∷◌, Option, Some, None, refl, sym, ◌∙◌, ap, subst}
use Rattle.std.specs.Prelude.{is_some, IsSome, cond, Result, Ok, Err, OnOk, OnErr}
use Rattle.std.specs.List.{list_any, AllByRecursion}
use Rattle.std.specs.List.Sorted.{IsStrictlySortedBy}
use Rattle.std.specs.Map.{lookup, keys_of}
use Rattle.std.specs.BTreeMap.{BTreeMap, Updates, IsOrdered}
use Rattle.std.specs.Str.{bytes_eq}
use Rattle.std.specs.Ordering.{nat_cmp, is_eq, ordering_then, ordering_reverse}
use Rattle.std.specs.Cmp.Lexicographic.{slice_cmp}
use Rattle.std.specs.declared.cmp.Ordering.{Ordering}
use Rattle.std.specs.declared.cmp.Ordering.TheVariants.{Less, Equal, Greater}
use Rattle.std.proofs.lemmas.Map.Keys.{sorted_head, sorted_tail}
use Rattle.std.proofs.lemmas.Map.Lookups.{exact_unsigned, exact_bytes}
use Rattle.std.proofs.lemmas.Cmp.{nat_cmp_total, nat_list_cmp_total}
use Rattle.std.proofs.lemmas.Slice.Eq.{bytes_eq-Decides}
use Rattle.cache_model.specs.declared.entries.Entry.{Entry}
use Rattle.cache_model.specs.Hash.{hash}
use Rattle.store_trait.specs.declared.entries.HashedKey.{HashedKey}
use Rattle.store_trait.specs.declared.entries.Room.{Room}
use Rattle.store_trait.specs.declared.entries.Room.TheVariants.{Empty, Holding}
use Rattle.store_trait.specs.Meaning.{read_in}
use Rattle.store_trait.specs.Places.{hashed, place_cmp, reading_of}
use Rattle.store_trait.specs.Rooms.{held_in, keys_in, AreHashed, IsKeptWell, held_of}
use Rattle.store_trait.specs.Held.{Held, has_seat, IsSeatOf}
use Rattle.store_trait.specs.Keeping.{SameContent}
use Rattle.store_trait.specs.declared.entries.Entries.TheInside.{Inside}
use Rattle.store_trait.specs.declared.entries.Seat.{Seat}

-- the room of a key
abbrev pub room_at : HashedKey → List (HashedKey × Room) → Option Room
room_at place rooms = lookup (λ other. is_eq (place_cmp place other)) rooms

abbrev placed : ℕ → List ℕ → HashedKey
placed hash key = record { hash = hash; key = key }

-- places that compare equal are the same
pub same_place : (one other : HashedKey) → is_eq (place_cmp one other) ≡ true → one ≡ other
same_place one other same = by (nat_cmp one.hash other.hash) refl (slice_cmp nat_cmp one.key other.key) refl same
  where
    by : (o : Ordering) → nat_cmp one.hash other.hash ≡ o → (p : Ordering) → slice_cmp nat_cmp one.key other.key ≡ p → is_eq (ordering_then o p) ≡ true → one ≡ other
    by Less first p second is = cc
    by Greater first p second is = cc
    by Equal first Less second is = cc
    by Equal first Greater second is = cc
    by Equal first Equal second is = let h : one.hash ≡ other.hash = exact_unsigned one.hash other.hash first in let k : one.key ≡ other.key = exact_bytes one.key other.key second in ap (λ (n : ℕ). placed n one.key) h ∙ ap (placed other.hash) k

itself : (o : Ordering) → o ≡ ordering_reverse o → o ≡ Equal
itself Less is = cc
itself Equal is = refl
itself Greater is = cc

-- a place compares equal to itself
pub place_itself : (place : HashedKey) → is_eq (place_cmp place place) ≡ true
place_itself place = rw (itself (nat_cmp place.hash place.hash) (nat_cmp_total.antisymm place.hash place.hash), itself (slice_cmp nat_cmp place.key place.key) (nat_list_cmp_total.antisymm place.key place.key)) refl

-- two keys with their hashes compare equal exactly where they are the same
pub same_key : (bits : ℕ) (place : HashedKey) (key : List ℕ) → place.hash ≡ hash bits place.key → is_eq (place_cmp (hashed bits key) place) ≡ bytes_eq place.key key
same_key bits place key is = by (bytes_eq place.key key) refl (is_eq (place_cmp (hashed bits key) place)) refl
  where
    by : (b : Bool) → bytes_eq place.key key ≡ b → (c : Bool) → is_eq (place_cmp (hashed bits key) place) ≡ c → c ≡ b
    by true same true less = refl
    by false same false less = refl
    by true same false less =
        let k : place.key ≡ key = (bytes_eq-Decides place.key key).0 same in
        let p : hashed bits key ≡ place = rw (sym k, sym is) refl in
        sym less ∙ subst (λ (q : HashedKey). is_eq (place_cmp (hashed bits key) q) ≡ true) p (place_itself (hashed bits key))
    by false same true less =
        let p : hashed bits key ≡ place = same_place (hashed bits key) place less in
        sym ((bytes_eq-Decides place.key key).1 (sym (ap (λ (q : HashedKey). q.key) p))) ∙ same

-- the same from the other side
pub same_hashed : (bits : ℕ) (place : HashedKey) (key : List ℕ) → place.hash ≡ hash bits place.key → is_eq (place_cmp place (hashed bits key)) ≡ bytes_eq place.key key
same_hashed bits place key is = by (bytes_eq place.key key) refl (is_eq (place_cmp place (hashed bits key))) refl
  where
    by : (b : Bool) → bytes_eq place.key key ≡ b → (c : Bool) → is_eq (place_cmp place (hashed bits key)) ≡ c → c ≡ b
    by true same true less = refl
    by false same false less = refl
    by true same false less =
        let k : place.key ≡ key = (bytes_eq-Decides place.key key).0 same in
        let p : hashed bits key ≡ place = rw (sym k, sym is) refl in
        sym less ∙ subst (λ (q : HashedKey). is_eq (place_cmp q (hashed bits key)) ≡ true) p (place_itself (hashed bits key))
    by false same true less =
        let p : place ≡ hashed bits key = same_place place (hashed bits key) less in
        sym ((bytes_eq-Decides place.key key).1 (ap (λ (q : HashedKey). q.key) p)) ∙ same

-- where a place stands before all others, none of them is it
none_behind : (place : HashedKey) (rooms : List (HashedKey × Room)) → AllByRecursion (λ y. place_cmp place y ≡ Less) (keys_of rooms) → room_at place rooms ≡ None
none_behind place [] behind = refl
none_behind place (e ∷ rooms) behind = rw (ap is_eq behind.0) (none_behind place rooms behind.1)

-- the hashes of a list of rooms, one by one
abbrev HaveHashes : ℕ → List (HashedKey × Room) → Type 0
HaveHashes bits rooms = AllByRecursion (λ (e : HashedKey × Room). e.0.hash ≡ hash bits e.0.key) rooms

have_hashes : (bits : ℕ) (rooms : List (HashedKey × Room)) → AreHashed bits rooms → HaveHashes bits rooms
have_hashes bits [] hashed = tt
have_hashes bits (e ∷ rooms) hashed = (hashed e.0 (rw (place_itself e.0) refl), have_hashes bits rooms (λ place there. hashed place (later (is_eq (place_cmp place e.0)) (room_at place rooms) there)))
  where
    later : (b : Bool) (r : Option Room) → is_some r ≡ true → is_some (cond b (Some e.1) r) ≡ true
    later true r is = refl
    later false r is = is

-- What is read under a key is what its room holds.
reads_by : (bits : ℕ) (rooms : List (HashedKey × Room)) → IsStrictlySortedBy place_cmp (keys_of rooms) → HaveHashes bits rooms
    → (key : List ℕ) → read_in (held_in rooms) key ≡ reading_of (room_at (hashed bits key) rooms)
reads_by bits [] ordered hashes key = refl
reads_by bits ((place, room) ∷ rooms) ordered hashes key = by (reads_by bits rooms (sorted_tail place_cmp place (keys_of rooms) ordered) hashes.1 key) (bytes_eq place.key key) refl room
  where
    test : is_eq (place_cmp (hashed bits key) place) ≡ bytes_eq place.key key
    test = same_key bits place key hashes.0

    none : bytes_eq place.key key ≡ true → room_at (hashed bits key) rooms ≡ None
    none same = subst (λ (p : HashedKey). room_at p rooms ≡ None) (sym (same_place (hashed bits key) place (test ∙ same))) (none_behind place rooms (sorted_head place_cmp place (keys_of rooms) ordered))

    by : read_in (held_in rooms) key ≡ reading_of (room_at (hashed bits key) rooms)
        → (b : Bool) → bytes_eq place.key key ≡ b → (r : Room) → read_in (held_in ((place, r) ∷ rooms)) key ≡ reading_of (room_at (hashed bits key) ((place, r) ∷ rooms))
    by rest true same Empty = rest ∙ ap reading_of (none same) ∙ sym (rw (test, same) refl)
    by rest true same (Holding held) = rw (test, same) refl
    by rest false same Empty = rw (test, same) rest
    by rest false same (Holding held) = rw (test, same) rest

pub reads : (bits : ℕ) (rooms : List (HashedKey × Room)) → IsStrictlySortedBy place_cmp (keys_of rooms) → AreHashed bits rooms
    → (key : List ℕ) → read_in (held_in rooms) key ≡ reading_of (room_at (hashed bits key) rooms)
reads bits rooms ordered are key = reads_by bits rooms ordered (have_hashes bits rooms are) key

seats_by : (bits : ℕ) (rooms : List (HashedKey × Room)) → HaveHashes bits rooms
    → (key : List ℕ) → list_any (λ other. bytes_eq other key) (keys_in rooms) ≡ is_some (room_at (hashed bits key) rooms)
seats_by bits [] hashes key = refl
seats_by bits ((place, room) ∷ rooms) hashes key = by (seats_by bits rooms hashes.1 key) (bytes_eq place.key key) refl
  where
    test : is_eq (place_cmp (hashed bits key) place) ≡ bytes_eq place.key key
    test = same_key bits place key hashes.0

    by : list_any (λ other. bytes_eq other key) (keys_in rooms) ≡ is_some (room_at (hashed bits key) rooms)
        → (b : Bool) → bytes_eq place.key key ≡ b → list_any (λ other. bytes_eq other key) (keys_in ((place, room) ∷ rooms)) ≡ is_some (room_at (hashed bits key) ((place, room) ∷ rooms))
    by rest true same = rw (test, same) refl
    by rest false same = rw (test, same) rest

-- A key has a seat exactly where it has a room.
pub seats : (bits : ℕ) (rooms : List (HashedKey × Room)) → AreHashed bits rooms
    → (key : List ℕ) → list_any (λ other. bytes_eq other key) (keys_in rooms) ≡ is_some (room_at (hashed bits key) rooms)
seats bits rooms are key = seats_by bits rooms (have_hashes bits rooms are) key

-- What an update at a place leaves: the rooms are kept well,
pub are_hashed : (bits : ℕ) (old new : BTreeMap HashedKey Room) (place : HashedKey) (room : Option Room) → place.hash ≡ hash bits place.key
    → Updates place_cmp old new place room → AreHashed bits old.entries → AreHashed bits new.entries
are_hashed bits old new place room is updates hashed other there = by (is_eq (place_cmp place other)) refl
  where
    by : (b : Bool) → is_eq (place_cmp place other) ≡ b → other.hash ≡ hash bits other.key
    by true same = subst (λ (p : HashedKey). p.hash ≡ hash bits p.key) (same_place place other same) is
    by false apart = hashed other (subst (λ (r : Option Room). is_some r ≡ true) (updates.0 other ∙ rw apart refl) there)

-- its key reads what the room holds, and each other key what it read,
pub reads_after : (bits : ℕ) (old new : BTreeMap HashedKey Room) (place : HashedKey) (room : Option Room) → place.hash ≡ hash bits place.key
    → Updates place_cmp old new place room → IsOrdered place_cmp old → IsOrdered place_cmp new → AreHashed bits old.entries
    → (key : List ℕ) → read_in (held_in new.entries) key ≡ cond (bytes_eq place.key key) (reading_of room) (read_in (held_in old.entries) key)
reads_after bits old new place room is updates before after are key =
    reads bits new.entries after (are_hashed bits old new place room is updates are) key
    ∙ ap reading_of (updates.0 (hashed bits key))
    ∙ by (bytes_eq place.key key) (same_hashed bits place key is)
  where
    by : (b : Bool) → is_eq (place_cmp place (hashed bits key)) ≡ b → reading_of (cond (is_eq (place_cmp place (hashed bits key))) room (room_at (hashed bits key) old.entries)) ≡ cond b (reading_of room) (read_in (held_in old.entries) key)
    by true same = rw same refl
    by false apart = rw apart (sym (reads bits old.entries before are key))

-- and its key has a seat exactly where there is a room, and each other key where it had one.
pub seats_after : (bits : ℕ) (old new : BTreeMap HashedKey Room) (place : HashedKey) (room : Option Room) → place.hash ≡ hash bits place.key
    → Updates place_cmp old new place room → AreHashed bits old.entries
    → (key : List ℕ) → list_any (λ other. bytes_eq other key) (keys_in new.entries) ≡ cond (bytes_eq place.key key) (is_some room) (list_any (λ other. bytes_eq other key) (keys_in old.entries))
seats_after bits old new place room is updates are key =
    seats bits new.entries (are_hashed bits old new place room is updates are) key
    ∙ ap is_some (updates.0 (hashed bits key))
    ∙ by (bytes_eq place.key key) (same_hashed bits place key is)
  where
    by : (b : Bool) → is_eq (place_cmp place (hashed bits key)) ≡ b → is_some (cond (is_eq (place_cmp place (hashed bits key))) room (room_at (hashed bits key) old.entries)) ≡ cond b (is_some room) (list_any (λ other. bytes_eq other key) (keys_in old.entries))
    by true same = rw same refl
    by false apart = rw apart (sym (seats bits old.entries are key))

-- a seat has a room
pub seat_stands : (inside : Inside) (seat : Seat) → IsKeptWell inside → IsSeatOf (held_of inside) seat
    → (seat.place.hash ≡ hash inside.bits seat.place.key) × IsSome (room_at seat.place inside.rooms.entries)
seat_stands inside seat well is = (is.hash, subst (λ (p : HashedKey). IsSome (room_at p inside.rooms.entries)) here (sym (seats inside.bits inside.rooms.entries well.hashed seat.place.key) ∙ is.has))
  where
    here : hashed inside.bits seat.place.key ≡ seat.place
    here = rw (sym is.hash) refl

-- what can't fail was done
pub was_done : {T E : Type 0} {U : Type 0} (room : Option Room) (same : Type 0) (result : Result T E) → IsSome room → OnOk result U → OnErr result (same × (room ≡ None)) → U
was_done room same (Ok x) some done failed = done
was_done None same (Err e) some done failed = cc
was_done (Some room) same (Err e) some done failed = let no : Some room ≡ None = failed.1 in cc

-- what an update at a seat's place leaves is kept well
pub kept_well : (inside : Inside) (new : BTreeMap HashedKey Room) (place : HashedKey) (room : Option Room) → IsKeptWell inside → place.hash ≡ hash inside.bits place.key
    → Updates place_cmp inside.rooms new place room → IsOrdered place_cmp new
    → IsKeptWell (record { bits = inside.bits; rooms = new })
kept_well inside new place room well is updates ordered = record { few = well.few; ordered = ordered; hashed = are_hashed inside.bits inside.rooms new place room is updates well.hashed }

-- a room in which nothing is held, made or taken away, leaves what is held
pub still_held : (inside : Inside) (new : BTreeMap HashedKey Room) (place : HashedKey) (room : Option Room) → IsKeptWell inside → place.hash ≡ hash inside.bits place.key
    → Updates place_cmp inside.rooms new place room → IsOrdered place_cmp new
    → reading_of room ≡ None → reading_of (room_at place inside.rooms.entries) ≡ None
    → SameContent (held_in inside.rooms.entries) (held_in new.entries)
still_held inside new place room well is updates ordered none was key =
    reads_after inside.bits inside.rooms new place room is updates well.ordered ordered well.hashed key ∙ by (bytes_eq place.key key) refl
  where
    old : read_in (held_in inside.rooms.entries) key ≡ reading_of (room_at (hashed inside.bits key) inside.rooms.entries)
    old = reads inside.bits inside.rooms.entries well.ordered well.hashed key

    by : (b : Bool) → bytes_eq place.key key ≡ b → cond b (reading_of room) (read_in (held_in inside.rooms.entries) key) ≡ read_in (held_in inside.rooms.entries) key
    by true same =
        let k : place.key ≡ key = (bytes_eq-Decides place.key key).0 same in
        let p : hashed inside.bits key ≡ place = rw (sym k, sym is) refl in
        none ∙ sym (old ∙ ap (λ (q : HashedKey). reading_of (room_at q inside.rooms.entries)) p ∙ was)
    by false apart = refl

not_none : (room : Option Room) → room ≡ None → is_some room ≡ true → ⊥
not_none None is some = cc
not_none (Some room) is some = cc

-- where a key has a room it has a seat
pub has_room : (inside : Inside) (place : HashedKey) → IsKeptWell inside → place.hash ≡ hash inside.bits place.key → IsSome (room_at place inside.rooms.entries) → has_seat (held_of inside) place.key ≡ true
has_room inside place well is some = seats inside.bits inside.rooms.entries well.hashed place.key ∙ ap (λ (q : HashedKey). is_some (room_at q inside.rooms.entries)) here ∙ some
  where
    here : hashed inside.bits place.key ≡ place
    here = rw (sym is) refl

-- What `unseat` leaves, by what the room held.
pub record Unseats (old : Held) (key : List ℕ) (new : Held) : Type 0 where
  pub held : SameContent old.content new.content
  pub gone : has_seat new key ≡ is_some (read_in old.content key)
  pub others : (other : List ℕ) → bytes_eq key other ≡ false → has_seat new other ≡ has_seat old other

pub unseats : (inside : Inside) (new : BTreeMap HashedKey Room) (place : HashedKey) → IsKeptWell inside → place.hash ≡ hash inside.bits place.key → IsSome (room_at place inside.rooms.entries)
    → (room_at place inside.rooms.entries ≡ Some Empty → Updates place_cmp inside.rooms new place None)
    → ((room_at place inside.rooms.entries ≡ Some Empty → ⊥) → new ≡ inside.rooms)
    → IsOrdered place_cmp new
    → IsKeptWell (record { bits = inside.bits; rooms = new }) × Unseats (held_of inside) place.key (held_of (record { bits = inside.bits; rooms = new }))
unseats inside new place well is some taken same ordered = by (room_at place inside.rooms.entries) refl
  where
    here : hashed inside.bits place.key ≡ place
    here = rw (sym is) refl

    reading : read_in (held_in inside.rooms.entries) place.key ≡ reading_of (room_at place inside.rooms.entries)
    reading = reads inside.bits inside.rooms.entries well.ordered well.hashed place.key ∙ ap (λ (q : HashedKey). reading_of (room_at q inside.rooms.entries)) here

    by : (room : Option Room) → room_at place inside.rooms.entries ≡ room
        → IsKeptWell (record { bits = inside.bits; rooms = new }) × Unseats (held_of inside) place.key (held_of (record { bits = inside.bits; rooms = new }))
    by None found = absurd (not_none (room_at place inside.rooms.entries) found some)
    by (Some Empty) found =
        let updates = taken found in (
          kept_well inside new place None well is updates ordered,
          record {
            held = still_held inside new place None well is updates ordered refl (ap reading_of found);
            gone = seats_after inside.bits inside.rooms new place None is updates well.hashed place.key ∙ rw ((bytes_eq-Decides place.key place.key).1 refl) (sym (ap is_some (reading ∙ ap reading_of found)));
            others = λ other apart. seats_after inside.bits inside.rooms new place None is updates well.hashed other ∙ rw apart refl;
          },
        )
    by (Some (Holding held)) found =
        let all : new ≡ inside.rooms = same (λ empty. let no : Some (Holding held) ≡ Some Empty = sym found ∙ empty in cc) in
        subst (λ (m : BTreeMap HashedKey Room). IsKeptWell (record { bits = inside.bits; rooms = m }) × Unseats (held_of inside) place.key (held_of (record { bits = inside.bits; rooms = m }))) (sym all)
        (well, record { held = λ key. refl; gone = has_room inside place well is some ∙ sym (ap is_some (reading ∙ ap reading_of found)); others = λ other apart. refl })

-- what `fill` leaves
pub record Fills (old : Held) (key : List ℕ) (entry : Option Entry) (new : Held) : Type 0 where
  pub held : SameContent ((key, entry) ∷ old.content) new.content
  pub seats : (other : List ℕ) → has_seat new other ≡ has_seat old other

pub fills : (inside : Inside) (new : BTreeMap HashedKey Room) (place : HashedKey) (held : Option Entry) → IsKeptWell inside → place.hash ≡ hash inside.bits place.key → IsSome (room_at place inside.rooms.entries)
    → Updates place_cmp inside.rooms new place (Some (Holding held)) → IsOrdered place_cmp new
    → IsKeptWell (record { bits = inside.bits; rooms = new }) × Fills (held_of inside) place.key held (held_of (record { bits = inside.bits; rooms = new }))
fills inside new place held well is some updates ordered = (
  kept_well inside new place (Some (Holding held)) well is updates ordered,
  record {
    held = λ key. reads_after inside.bits inside.rooms new place (Some (Holding held)) is updates well.ordered ordered well.hashed key;
    seats = λ key. seats_after inside.bits inside.rooms new place (Some (Holding held)) is updates well.hashed key ∙ by key (bytes_eq place.key key) refl;
  },
)
  where
    by : (key : List ℕ) (b : Bool) → bytes_eq place.key key ≡ b → cond b true (has_seat (held_of inside) key) ≡ has_seat (held_of inside) key
    by key true same =
        sym (subst (λ (k : List ℕ). has_seat (held_of inside) k ≡ true) ((bytes_eq-Decides place.key key).0 same) (has_room inside place well is some))
    by key false apart = refl

-- what a new seat leaves
pub record Seats (old : Held) (key : List ℕ) (new : Held) : Type 0 where
  pub held : SameContent old.content new.content
  pub seated : has_seat new key ≡ true
  pub others : (other : List ℕ) → has_seat old other ≡ true → has_seat new other ≡ true

pub seated : (inside : Inside) (new : BTreeMap HashedKey Room) (place : HashedKey) → IsKeptWell inside → place.hash ≡ hash inside.bits place.key → is_some (room_at place inside.rooms.entries) ≡ false
    → Updates place_cmp inside.rooms new place (Some Empty) → IsOrdered place_cmp new
    → IsKeptWell (record { bits = inside.bits; rooms = new }) × Seats (held_of inside) place.key (held_of (record { bits = inside.bits; rooms = new }))
seated inside new place well is none updates ordered = (
  kept_well inside new place (Some Empty) well is updates ordered,
  record {
    held = still_held inside new place (Some Empty) well is updates ordered refl (empty (room_at place inside.rooms.entries) none);
    seated = after place.key ∙ rw ((bytes_eq-Decides place.key place.key).1 refl) refl;
    others = λ other had. after other ∙ by (bytes_eq place.key other) had;
  },
)
  where
    after : (key : List ℕ) → has_seat (held_of (record { bits = inside.bits; rooms = new })) key ≡ cond (bytes_eq place.key key) true (has_seat (held_of inside) key)
    after key = seats_after inside.bits inside.rooms new place (Some Empty) is updates well.hashed key

    empty : (r : Option Room) → is_some r ≡ false → reading_of r ≡ None
    empty None none = refl
    empty (Some r) none = cc

    by : (b : Bool) {c : Bool} → c ≡ true → cond b true c ≡ true
    by true is = refl
    by false is = is
