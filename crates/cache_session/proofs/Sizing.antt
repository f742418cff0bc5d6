-- A walk over the visible keys.
use Rattle.std.proofs.Common.{◌≡◌, ◌⊎◌, inl, inr, ⊎_elim, ℕ, ◌+◌, ◌-◌, ◌^◌, ◌<◌, Bool, true, false, List, [], ◌∷◌, ◌++◌, length, Option, Some, None, refl, sym, ◌∙◌, ap, subst, arith, length-append}
use Rattle.std.specs.Prelude.{Ok, Err, IsSome, is_some, if◌then◌else◌}
use Rattle.std.specs.List.{list_any}
use Rattle.std.specs.Str.{bytes_eq}
use Rattle.cache_model.specs.declared.entries.Entry.{Entry}
use Rattle.cache_model.specs.declared.entries.Change.{Change}
use Rattle.cache_model.specs.declared.entries.Change.TheVariants.{Remove}
use Rattle.cache_model.specs.declared.commands.Command.TheVariants.{Size}
use Rattle.cache_model.specs.declared.replies.Reply.TheVariants as reply
use Rattle.cache_model.specs.declared.faults.StoreFault.{StoreFault}
use Rattle.cache_model.specs.declared.faults.StoreFault.TheVariants as fault
use Rattle.cache_model.specs.Changes.{KeyChange}
use Rattle.cache_model.specs.Plain.{Plain, removes, visible_keys, capped}
use Rattle.cache_disk.specs.State.{HostState}
use Rattle.store_trait.specs.Meaning.{read_in, seen, StoreFacts, StoreState}
use Rattle.store_trait.specs.Keeping.{SameStore, HoldsNow}
use Rattle.cache_model.specs.Hash.{follows, precedes}
use Rattle.store_trait.specs.Calls.{IsAhead, IsNextKey}
use Rattle.cache_session.proofs.Order.{precedes_trans, precedes_not}
use Rattle.cache_session.specs.Changing.{of_key, has_some, IsOrder, Shows}
use Rattle.cache_session.specs.Turns.{Did, by_changes, Turns}
use Rattle.cache_session.specs.Walks.{WalkedOne}
use Rattle.cache_session.proofs.Changing.{of_key-append, has_earlier}
use Rattle.cache_session.proofs.Keeping.{did_then, did_ok, did_err, did_refused}
use Rattle.cache_session.proofs.Turning.{did_nothing, turns_by, calm_size}
use Rattle.cache_session.proofs.Visible.{visible_any, visible_once, same_bytes, self_bytes, same_length}
use Rattle.cache_session.proofs.Clearing.{IsClearing, IsSeenAfter, seen_after}

pub never : false ≡ true → ⊥
never e = cc

-- so many visible keys were passed: each removal of the list stands for one
pub record Sizing (f g : StoreFacts) (old new : StoreState) (before after : HostState) (moment count : ℕ) (last : Option (List ℕ)) : Type 0 where
  pub passed : List Change
  pub did : Did {T = Unit {0}} by_changes f g g.spoilt old new before after moment [] (Ok tt)
  pub each : IsClearing moment old.content passed
  pub count_is : length passed ≡ count
  pub behind : (key : List ℕ) → IsSome (seen moment (read_in old.content key)) → (has_some (of_key key passed) ≡ true) ⊎ (follows f.bits last key ≡ true)
  pub before_last : (key : List ℕ) → has_some (of_key key passed) ≡ true → follows f.bits last key ≡ false

unfoldable pub begins : (f : StoreFacts) (s : StoreState) (a : HostState) (moment : ℕ) → s.stands → HoldsNow f s a.turn → Sizing f f s s a a moment 0 None
begins f s a moment stands now = record {
  passed = [];
  did = did_nothing f s a f.spoilt moment tt stands now;
  each = λ key. inl refl;
  count_is = refl;
  behind = λ key visible. inr refl;
  before_last = λ key has. absurd (never has);
}

pub walked_at : {last next : Option (List ℕ)} {f g : StoreFacts} {s t : StoreState} {a b : HostState} {m : ℕ} (x y : Bool) → x ≡ y → WalkedOne last next f g s t a b m (Ok x) → WalkedOne last next f g s t a b m (Ok y)
walked_at {last} {next} {f} {g} {s} {t} {a} {b} {m} x y same one = subst (λ (z : Bool). WalkedOne last next f g s t a b m (Ok z)) same one

-- the next key is the first of those behind the last one, among what was visible at first
pub first_at : (f g : StoreFacts) (s t : StoreState) (m : ℕ) (last next : Option (List ℕ)) → g.bits ≡ f.bits → IsSeenAfter m [] s.content t.content → IsNextKey g.bits m t.content last next → IsNextKey f.bits m s.content last next
first_at f g s t m last None bits same is = λ k ahead. subst (λ (x : ℕ). IsNextKey x m t.content last None) bits is k (ahead_of k ahead)
  where
    ahead_of : (k : List ℕ) → IsAhead f.bits m s.content last k → IsAhead f.bits m t.content last k
    ahead_of k ahead = record { visible = ap (λ (e : Option Entry). is_some e) (same k) ∙ ahead.visible; behind = ahead.behind }
first_at f g s t m last (Some key) bits same is =
    let at = subst (λ (x : ℕ). IsNextKey x m t.content last (Some key)) bits is in (
      record { visible = ap (λ (e : Option Entry). is_some e) (sym (same key)) ∙ at.0.visible; behind = at.0.behind },
      λ k ahead. at.1 k record { visible = ap (λ (e : Option Entry). is_some e) (same k) ∙ ahead.visible; behind = ahead.behind },
    )

-- one key more was passed
unfoldable pub goes_to : {T : Type 0} (f g h : StoreFacts) (s t u : StoreState) (a b c : HostState) (m n : ℕ) (last next : Option (List ℕ)) (key : List ℕ) (x : T)
    → SameStore f g → SameStore g h
    → Sizing f g s t a b m n last
    → Did {T = T} by_changes g h h.spoilt t u b c m [] (Ok x)
    → IsNextKey g.bits m t.content last (Some key)
    → next ≡ Some key
    → Sizing f h s u a c m (n + 1) next
goes_to f g h s t u a b c m n last next key x same same2 so did is at = record {
  passed = so.passed ++ Remove key ∷ [];
  did = did_then f g h g.spoilt h.spoilt s t u a b c m [] (Ok tt) same tt so.did same2 (did_ok g h h.spoilt t u b c m [] x tt did);
  each = λ k. each k (bytes_eq key k) refl (so.each k);
  count_is = length-append so.passed (Remove key ∷ []) ∙ ap (λ (x : ℕ). x + 1) so.count_is;
  behind = λ k visible. subst (λ (o : Option (List ℕ)). (has_some (of_key k (so.passed ++ Remove key ∷ [])) ≡ true) ⊎ (follows f.bits o k ≡ true)) (sym at) (behind k visible);
  before_last = λ k has. subst (λ (o : Option (List ℕ)). follows f.bits o k ≡ false) (sym at) (before_last k (bytes_eq key k) refl has);
}
  where
    first : IsNextKey f.bits m s.content last (Some key)
    first = first_at f g s t m last (Some key) same.bits (seen_after f m [] s.content t.content so.did.content.kept) is

    added : (k : List ℕ) (x : Bool) → bytes_eq key k ≡ x → of_key k (so.passed ++ Remove key ∷ []) ≡ of_key k so.passed ++ (if x then None ∷ [] else [])
    added k x same_key = of_key-append k so.passed (Remove key ∷ []) ∙ ap (λ (y : Bool). of_key k so.passed ++ (if y then None ∷ [] else [])) same_key

    new : (l : List KeyChange) → of_key key so.passed ≡ l → has_some l ≡ true → ⊥
    new l is_l has = never (sym (so.before_last key (ap has_some is_l ∙ has)) ∙ first.0.behind)

    each : (k : List ℕ) (x : Bool) → bytes_eq key k ≡ x → (of_key k so.passed ≡ []) ⊎ ((of_key k so.passed ≡ None ∷ []) × IsSome (seen m (read_in s.content k)))
        → (of_key k (so.passed ++ Remove key ∷ []) ≡ []) ⊎ ((of_key k (so.passed ++ Remove key ∷ []) ≡ None ∷ []) × IsSome (seen m (read_in s.content k)))
    each k true is_key (inl none) = inr (added k true is_key ∙ ap (λ (l : List KeyChange). l ++ None ∷ []) none, subst (λ (q : List ℕ). is_some (seen m (read_in s.content q)) ≡ true) (same_bytes key k is_key) first.0.visible)
    each k true is_key (inr had) = absurd (new (None ∷ []) (subst (λ (q : List ℕ). of_key q so.passed ≡ None ∷ []) (sym (same_bytes key k is_key)) had.0) refl)
    each k false other (inl none) = inl (added k false other ∙ ap (λ (l : List KeyChange). l ++ []) none)
    each k false other (inr had) = inr (added k false other ∙ ap (λ (l : List KeyChange). l ++ []) had.0, had.1)

    has_more : (l : List KeyChange) (x : Bool) → has_some l ≡ true → has_some (l ++ (if x then None ∷ [] else [])) ≡ true
    has_more [] x h = absurd (never h)
    has_more (e ∷ l) x h = refl

    has_new : (l : List KeyChange) → has_some (l ++ None ∷ []) ≡ true
    has_new [] = refl
    has_new (e ∷ l) = refl

    behind : (k : List ℕ) → IsSome (seen m (read_in s.content k)) → (has_some (of_key k (so.passed ++ Remove key ∷ [])) ≡ true) ⊎ (precedes f.bits key k ≡ true)
    behind k visible =
        ⊎_elim
        (λ had. inl (ap has_some (added k (bytes_eq key k) refl) ∙ has_more (of_key k so.passed) (bytes_eq key k) had))
        (λ ahead. ⊎_elim
        (λ equal. inl (ap has_some (added k true (ap (bytes_eq key) equal ∙ self_bytes key)) ∙ has_new (of_key k so.passed)))
        (λ later. inr later)
        (first.1 k record { visible = visible; behind = ahead }))
        (so.behind k visible)

    not_later : (k : List ℕ) (o : Option (List ℕ)) → follows f.bits o key ≡ true → follows f.bits o k ≡ false → (x : Bool) → precedes f.bits key k ≡ x → x ≡ false
    not_later k o front back false is_x = refl
    not_later k None front back true is_x = back
    not_later k (Some l) front back true is_x = sym (precedes_trans f.bits l key k front is_x) ∙ back

    before_last : (k : List ℕ) (x : Bool) → bytes_eq key k ≡ x → has_some (of_key k (so.passed ++ Remove key ∷ [])) ≡ true → precedes f.bits key k ≡ false
    before_last k true is_key has = subst (λ (q : List ℕ). precedes f.bits key q ≡ false) (same_bytes key k is_key) (precedes_not f.bits key)
    before_last k false other has = not_later k last first.0.behind (so.before_last k (has_earlier (of_key k so.passed) [] (ap has_some (sym (added k false other)) ∙ has) refl)) (precedes f.bits key k) refl

pub goes : (f g h : StoreFacts) (s t u : StoreState) (a b c : HostState) (m n : ℕ) (last next : Option (List ℕ))
    → SameStore f g → SameStore g h
    → Sizing f g s t a b m n last
    → WalkedOne last next g h t u b c m (Ok true)
    → Sizing f h s u a c m (n + 1) next
goes f g h s t u a b c m n last next same same2 so one = by one.next refl
  where
    by : (o : Option (List ℕ)) → one.next ≡ o → Sizing f h s u a c m (n + 1) next
    by None is = absurd (never (sym (one.more ∙ ap is_some is)))
    by (Some key) is = goes_to f g h s t u a b c m n last next key true same same2 so one.did (subst (λ (o : Option (List ℕ)). IsNextKey g.bits m t.content last o) is one.first) (one.stands_at key is)

-- all visible keys were passed
pub all_passed : (plain : Plain) (f g h : StoreFacts) (s t u : StoreState) (a b c : HostState) (m n : ℕ) (last next : Option (List ℕ))
    → SameStore f g → (so : Sizing f g s t a b m n last) → WalkedOne last next g h t u b c m (Ok false)
    → plain.moment ≡ m → Shows plain s.content
    → IsOrder (removes (visible_keys plain)) so.passed
all_passed plain f g h s t u a b c m n last next same so one at shows key = by (so.each key)
  where
    none_left : (o : Option (List ℕ)) → one.next ≡ o → one.next ≡ None
    none_left None is = is
    none_left (Some k) is = absurd (never (one.more ∙ ap is_some is))

    none : IsNextKey f.bits m s.content last None
    none = first_at f g s t m last None same.bits (seen_after f m [] s.content t.content so.did.content.kept) (subst (λ (o : Option (List ℕ)). IsNextKey g.bits m t.content last o) (none_left one.next refl) one.first)

    among : list_any (bytes_eq key) (visible_keys plain) ≡ is_some (seen m (read_in s.content key))
    among = visible_any plain key ∙ ap (λ (e : Option Entry). is_some e) (sym (shows key)) ∙ ap (λ (k : ℕ). is_some (seen k (read_in s.content key))) at

    unseen : of_key key so.passed ≡ [] → (x : Bool) → is_some (seen m (read_in s.content key)) ≡ x → x ≡ false
    unseen empty false is = refl
    unseen empty true is = absurd (⊎_elim (λ had. never (sym (ap has_some empty) ∙ had)) (λ ahead. none key record { visible = is; behind = ahead }) (so.behind key is))

    by : (of_key key so.passed ≡ []) ⊎ ((of_key key so.passed ≡ None ∷ []) × IsSome (seen m (read_in s.content key))) → of_key key so.passed ≡ (if list_any (bytes_eq key) (visible_keys plain) then None ∷ [] else [])
    by (inl empty) = empty ∙ ap (λ (x : Bool). if x then None ∷ [] else []) (sym (among ∙ unseen empty (is_some (seen m (read_in s.content key))) refl))
    by (inr had) = had.0 ∙ ap (λ (x : Bool). if x then None ∷ [] else []) (sym (among ∙ had.1))

pub ends : (publish : List ℕ) (plain : Plain) (f g h : StoreFacts) (s t u : StoreState) (a b c : HostState) (m n : ℕ) (last next : Option (List ℕ))
    → SameStore f g → SameStore g h
    → Sizing f g s t a b m n last → WalkedOne last next g h t u b c m (Ok false)
    → n < 2 ^ 64 - 1
    → plain.moment ≡ m → Shows plain s.content
    → Turns publish plain Size f h h.spoilt s u a c (Ok (reply.Size n))
ends publish plain f g h s t u a b c m n last next same same2 so one less at shows =
    turns_by publish plain Size f h h.spoilt s u a c m [] (Ok (reply.Size n)) calm_size at shows (λ key. refl)
    (did_then f g h g.spoilt h.spoilt s t u a b c m [] (Ok (reply.Size n)) same tt so.did same2 (did_ok g h h.spoilt t u b c m [] false (reply.Size n) one.did))
    (ap (λ (k : ℕ). reply.Size k) (fits (length (visible_keys plain)) (sym so.count_is ∙ same_length (visible_keys plain) so.passed (visible_once plain) (all_passed plain f g h s t u a b c m n last next same so one at shows))))
  where
    fits : (k : ℕ) → n ≡ k → n ≡ capped k
    fits k is = omega (arith, less, is)

pub stops : (publish : List ℕ) (plain : Plain) (f g h : StoreFacts) (s t u : StoreState) (a b c : HostState) (m n : ℕ) (last next : Option (List ℕ)) (e : StoreFault)
    → SameStore f g → SameStore g h
    → Sizing f g s t a b m n last → WalkedOne last next g h t u b c m (Err e)
    → plain.moment ≡ m → Shows plain s.content
    → Turns publish plain Size f h h.spoilt s u a c (Err e)
stops publish plain f g h s t u a b c m n last next e same same2 so one at shows =
    turns_by publish plain Size f h h.spoilt s u a c m [] (Err e) calm_size at shows (λ key. refl)
    (did_then f g h g.spoilt h.spoilt s t u a b c m [] (Err e) same tt so.did same2 (did_err g h h.spoilt t u b c m [] e one.did)) tt

-- it gave up
pub gives_up : (publish : List ℕ) (plain : Plain) (f g : StoreFacts) (s t : StoreState) (a b : HostState) (m n : ℕ) (last : Option (List ℕ))
    → Sizing f g s t a b m n last
    → plain.moment ≡ m → Shows plain s.content
    → Turns publish plain Size f g g.spoilt s t a b (Err fault.Memory)
gives_up publish plain f g s t a b m n last so at shows =
    turns_by publish plain Size f g g.spoilt s t a b m [] (Err fault.Memory) calm_size at shows (λ key. refl)
    (did_refused f g g.spoilt s t a b m tt so.did) tt
