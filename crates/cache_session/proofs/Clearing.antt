-- A clear in the midst of its removals.
use Rattle.std.proofs.Common.{◌≡◌, ◌⊎◌, inl, inr, ⊎_elim, ℕ, ◌+◌, ◌-◌, ◌^◌, ◌<◌, Bool, true, false, List, [], ◌∷◌, ◌++◌, length, Option, Some, None, refl, sym, ◌∙◌, ap, subst, arith, length-append}
use Rattle.std.specs.Prelude.{Result, Ok, Err, IsSome, is_some, if◌then◌else◌, ◌||◌}
use Rattle.std.specs.Str.{bytes_eq}
use Rattle.cache_model.specs.declared.entries.Entry.{Entry}
use Rattle.cache_model.specs.declared.entries.Change.{Change}
use Rattle.cache_model.specs.declared.entries.Change.TheVariants.{Remove}
use Rattle.cache_model.specs.Changes.{KeyChange}
use Rattle.cache_model.specs.declared.faults.StoreFault.{StoreFault}
use Rattle.cache_model.specs.declared.faults.StoreFault.TheVariants as fault
use Rattle.cache_disk.specs.State.{HostState}
use Rattle.store_trait.specs.Meaning.{Reading, Content, read_in, seen, StoreFacts, StoreState}
use Rattle.cache_model.specs.Plain.{Plain, removes, visible_keys, capped}
use Rattle.std.specs.List.{list_any}
use Rattle.store_trait.specs.Keeping.{IsKept, SameStore, HoldsNow}
use Rattle.store_trait.proofs.Alike.{alike_seen}
use Rattle.cache_model.specs.Hash.{follows}
use Rattle.store_trait.specs.Calls.{IsNextKey}
use Rattle.cache_session.specs.Changing.{after_all, of_key, has_some, IsOrder, Shows}
use Rattle.cache_session.proofs.Keeping.{did_more, did_then, did_ok, did_err, did_broken, did_gave_up, did_spoilt, spoilt_err, ok_no_fault}
use Rattle.cache_session.proofs.Visible.{visible_any, visible_once, same_bytes, self_bytes, rest_of, completes, same_length}
use Rattle.std.proofs.lemmas.List.{append-nil}
use Rattle.cache_model.specs.declared.commands.Command.TheVariants.{Clear}
use Rattle.cache_model.specs.declared.replies.Reply.TheVariants.{Cleared}
use Rattle.cache_session.specs.Turns.{Did, by_changes, Turns}
use Rattle.cache_session.specs.Walks.{removal_of, ClearedOne}
use Rattle.cache_session.proofs.Changing.{last_of, read_after, of_key-append}
use Rattle.cache_session.proofs.Turning.{did_nothing, turns_by, calm_clear}

-- each key was removed once, where it was visible, or not at all
abbrev pub IsClearing : ℕ → Content → List Change → Type 0
IsClearing moment content changes = (key : List ℕ) → (of_key key changes ≡ []) ⊎ ((of_key key changes ≡ None ∷ []) × IsSome (seen moment (read_in content key)))

-- so many visible keys were removed, and what is visible still stands behind the last of them
pub record Clearing (f g : StoreFacts) (old new : StoreState) (before after : HostState) (moment count : ℕ) (last : Option (List ℕ)) : Type 0 where
  pub changes : List Change
  pub did : Did {T = Unit {0}} by_changes f g g.spoilt old new before after moment changes (Ok tt)
  pub each : IsClearing moment old.content changes
  pub count_is : length changes ≡ count
  pub behind : (key : List ℕ) → IsSome (seen moment (read_in new.content key)) → follows f.bits last key ≡ true

pub begins : (f : StoreFacts) (s : StoreState) (a : HostState) (moment : ℕ) → s.stands → HoldsNow f s a.turn → Clearing f f s s a a moment 0 None
begins f s a moment stands now = record {
  changes = [];
  did = did_nothing f s a f.spoilt moment tt stands now;
  each = λ key. inl refl;
  count_is = refl;
  behind = λ key visible. refl;
}

-- what is visible after a removal of a key was so before, and is another key
other_of : (m : ℕ) (key k : List ℕ) (c : Content) → is_some (seen m (read_in (after_all (Remove key ∷ []) c) k)) ≡ true → (bytes_eq key k ≡ false) × (is_some (seen m (read_in c k)) ≡ true)
other_of m key k c = by (bytes_eq key k) refl
  where
    by : (b : Bool) → bytes_eq key k ≡ b → is_some (seen m (if b then Some None else read_in c k)) ≡ true → (bytes_eq key k ≡ false) × (is_some (seen m (read_in c k)) ≡ true)
    by true is h = absurd (never h)
      where
        never : false ≡ true → ⊥
        never e = cc
    by false is h = (is, h)

-- what is seen after some changes
abbrev pub IsSeenAfter : ℕ → List Change → Content → Content → Type 0
IsSeenAfter m changes c d = (key : List ℕ) → seen m (read_in d key) ≡ seen m (read_in (after_all changes c) key)

pub seen_after : (f : StoreFacts) (m : ℕ) (changes : List Change) (c d : Content) → IsKept f m (after_all changes c) d → IsSeenAfter m changes c d
seen_after f m changes c d kept key = alike_seen (f.forgets key) m (read_in d key) (read_in (after_all changes c) key) (kept key)

-- what was removed isn't visible
gone : (m : ℕ) (key : List ℕ) (changes : List Change) (c d : Content) → of_key key changes ≡ None ∷ [] → IsSeenAfter m changes c d → is_some (seen m (read_in d key)) ≡ false
gone m key changes c d removed same =
    ap (λ (e : Option Entry). is_some e) (same key) ∙ ap (λ (r : Reading). is_some (seen m r)) (read_after changes c key ∙ ap (λ (l : List KeyChange). last_of l (read_in c key)) removed)

-- what has no change is seen as before
still : (m : ℕ) (key : List ℕ) (changes : List Change) (c d : Content) → of_key key changes ≡ [] → IsSeenAfter m changes c d → seen m (read_in d key) ≡ seen m (read_in c key)
still m key changes c d none same = same key ∙ ap (seen m) (read_after changes c key ∙ ap (λ (l : List KeyChange). last_of l (read_in c key)) none)

-- one removal more, of a key that was visible
more_each : (m : ℕ) (key : List ℕ) (changes : List Change) (c d : Content) → IsClearing m c changes → IsSeenAfter m changes c d → is_some (seen m (read_in d key)) ≡ true → IsClearing m c (changes ++ Remove key ∷ [])
more_each m key changes c d each same visible k = by (bytes_eq key k) refl (each k)
  where
    added : (b : Bool) → bytes_eq key k ≡ b → of_key k (changes ++ Remove key ∷ []) ≡ of_key k changes ++ (if b then None ∷ [] else [])
    added b is = of_key-append k changes (Remove key ∷ []) ∙ ap (λ (x : Bool). of_key k changes ++ (if x then None ∷ [] else [])) is

    by : (b : Bool) → bytes_eq key k ≡ b → (of_key k changes ≡ []) ⊎ ((of_key k changes ≡ None ∷ []) × IsSome (seen m (read_in c k))) → (of_key k (changes ++ Remove key ∷ []) ≡ []) ⊎ ((of_key k (changes ++ Remove key ∷ []) ≡ None ∷ []) × IsSome (seen m (read_in c k)))
    by true is (inl none) =
        inr (
          added true is ∙ ap (λ (l : List KeyChange). l ++ None ∷ []) none,
          subst (λ (e : Option Entry). is_some e ≡ true) (still m k changes c d none same) (subst (λ (q : List ℕ). is_some (seen m (read_in d q)) ≡ true) (same_bytes key k is) visible),
        )
    by true is (inr removed) = absurd (never (sym (gone m k changes c d removed.0 same) ∙ subst (λ (q : List ℕ). is_some (seen m (read_in d q)) ≡ true) (same_bytes key k is) visible))
      where
        never : false ≡ true → ⊥
        never e = cc
    by false is (inl none) = inl (added false is ∙ ap (λ (l : List KeyChange). l ++ []) none)
    by false is (inr removed) = inr (added false is ∙ ap (λ (l : List KeyChange). l ++ []) removed.0, removed.1)

pub goes : (f g h : StoreFacts) (s t u : StoreState) (a b c : HostState) (m n : ℕ) (last next : Option (List ℕ))
    → SameStore f g → SameStore g h
    → Clearing f g s t a b m n last
    → ClearedOne last next g h t u b c m (Ok true)
    → Clearing f h s u a c m (n + 1) next
goes f g h s t u a b c m n last next same same2 so one = by one.next refl
  where
    by : (o : Option (List ℕ)) → one.next ≡ o → Clearing f h s u a c m (n + 1) next
    by None is = absurd (never (one.more ∙ ap is_some is))
      where
        never : true ≡ false → ⊥
        never e = cc
    by (Some key) is =
        let visible : is_some (seen m (read_in t.content key)) ≡ true = one.visible key is in
        let did : Did {T = Bool} by_changes g h h.spoilt t u b c m (Remove key ∷ []) (Ok true) = subst (λ (o : Option (List ℕ)). Did {T = Bool} by_changes g h h.spoilt t u b c m (removal_of o) (Ok true)) is one.did in
        record {
          changes = so.changes ++ Remove key ∷ [];
          did = did_more f g h g.spoilt h.spoilt s t u a b c m so.changes (Remove key ∷ []) (Ok tt) same tt so.did same2 (did_ok g h h.spoilt t u b c m (Remove key ∷ []) true tt did) (λ of unspoilt. absurd (ok_no_fault tt fault.Memory of));
          each = more_each m key so.changes s.content t.content so.each (seen_after f m so.changes s.content t.content so.did.content.kept) visible;
          count_is = length-append so.changes (Remove key ∷ []) ∙ ap (λ (x : ℕ). x + 1) so.count_is;
          behind = λ k seen_now.
              let still_seen = other_of m key k t.content (ap (λ (e : Option Entry). is_some e) (sym (seen_after g m (Remove key ∷ []) t.content u.content did.content.kept k)) ∙ seen_now) in
              let first : IsNextKey f.bits m t.content last (Some key) = subst (λ (x : ℕ). IsNextKey x m t.content last (Some key)) same.bits (subst (λ (o : Option (List ℕ)). IsNextKey g.bits m t.content last o) is one.first) in
              subst (λ (o : Option (List ℕ)). follows f.bits o k ≡ true) (sym (one.stands_at key is))
              (⊎_elim (λ equal. absurd (apart_from key k equal still_seen.0)) (λ later. later) (first.1 k record { visible = still_seen.1; behind = so.behind k still_seen.1 }));
        }
      where
        apart_from : (key k : List ℕ) → k ≡ key → bytes_eq key k ≡ false → ⊥
        apart_from key k equal other = never (sym (self_bytes key) ∙ subst (λ (q : List ℕ). bytes_eq key q ≡ false) equal other)
          where
            never : true ≡ false → ⊥
            never e = cc

-- where no visible key is left, each of them was removed
pub all_cleared : (plain : Plain) (bits : ℕ) (changes : List Change) (last : Option (List ℕ)) (c d : Content)
    → Shows plain c
    → IsClearing plain.moment c changes
    → IsSeenAfter plain.moment changes c d
    → ((key : List ℕ) → IsSome (seen plain.moment (read_in d key)) → follows bits last key ≡ true)
    → IsNextKey bits plain.moment d last None
    → IsOrder (removes (visible_keys plain)) changes
all_cleared plain bits changes last c d shows each same behind none key = by (each key)
  where
    m : ℕ
    m = plain.moment

    among : (b : Bool) → is_some (seen m (read_in c key)) ≡ b → list_any (bytes_eq key) (visible_keys plain) ≡ b
    among b is = visible_any plain key ∙ ap (λ (e : Option Entry). is_some e) (sym (shows key)) ∙ is

    unseen : of_key key changes ≡ [] → (b : Bool) → is_some (seen m (read_in c key)) ≡ b → b ≡ false
    unseen empty true is = absurd (none key record { visible = here; behind = behind key here })
      where
        here : is_some (seen m (read_in d key)) ≡ true
        here = ap (λ (e : Option Entry). is_some e) (still m key changes c d empty same) ∙ is
    unseen empty false is = refl

    by : (of_key key changes ≡ []) ⊎ ((of_key key changes ≡ None ∷ []) × IsSome (seen m (read_in c key))) → of_key key changes ≡ (if list_any (bytes_eq key) (visible_keys plain) then None ∷ [] else [])
    by (inl empty) = empty ∙ ap (λ (b : Bool). if b then None ∷ [] else []) (sym (among (is_some (seen m (read_in c key))) refl ∙ unseen empty (is_some (seen m (read_in c key))) refl))
    by (inr removed) = removed.0 ∙ ap (λ (b : Bool). if b then None ∷ [] else []) (sym (among true removed.1))

-- where some may be left, they are removed with those that have no change yet
pub begun_order : (plain : Plain) (changes : List Change) (c : Content) → Shows plain c → IsClearing plain.moment c changes → IsOrder (removes (visible_keys plain)) (changes ++ rest_of changes (visible_keys plain))
begun_order plain changes c shows each key = completes (visible_keys plain) changes key ∙ by (each key)
  where
    any : Bool
    any = list_any (bytes_eq key) (visible_keys plain)

    by : (of_key key changes ≡ []) ⊎ ((of_key key changes ≡ None ∷ []) × IsSome (seen plain.moment (read_in c key)))
        → (if has_some (of_key key changes) then of_key key changes else (if any then None ∷ [] else [])) ≡ (if any then None ∷ [] else [])
    by (inl empty) = ap (λ (l : List KeyChange). if has_some l then l else (if any then None ∷ [] else [])) empty
    by (inr removed) =
        ap (λ (l : List KeyChange). if has_some l then l else (if any then None ∷ [] else [])) removed.0
        ∙ ap (λ (b : Bool). if b then None ∷ [] else []) (sym (visible_any plain key ∙ ap (λ (e : Option Entry). is_some e) (sym (shows key)) ∙ removed.1))

-- one more was removed, or not

same_some : (x y : List ℕ) → Some x ≡ Some y → x ≡ y
same_some x y h = cc

pub cleared_ok : {T V : Type 0} (f g h : StoreFacts) (s t u : StoreState) (a b c : HostState) (m : ℕ) (last next : Option (List ℕ)) (key : List ℕ) (x : T) (y : V)
    → SameStore f g → SameStore g h
    → Did {T = T} by_changes f g g.spoilt s t a b m [] (Ok x)
    → IsNextKey f.bits m s.content last (Some key)
    → Did {T = V} by_changes g h h.spoilt t u b c m (Remove key ∷ []) (Ok y)
    → next ≡ Some key
    → ClearedOne last next f h s u a c m (Ok true)
cleared_ok f g h s t u a b c m last next key x y same same2 first is second at = record {
  next = Some key;
  did = did_then f g h g.spoilt h.spoilt s t u a b c m (Remove key ∷ []) (Ok true) same x first same2 (did_ok g h h.spoilt t u b c m (Remove key ∷ []) y true second);
  visible = λ k equal. subst (λ (q : List ℕ). is_some (seen m (read_in s.content q)) ≡ true) (same_some key k equal) is.0.visible;
  first = is;
  more = refl;
  stands_at = λ k equal. at ∙ equal;
}

pub cleared_err : {T V : Type 0} (f g h : StoreFacts) (s t u : StoreState) (a b c : HostState) (m : ℕ) (last next : Option (List ℕ)) (key : List ℕ) (x : T) (e : StoreFault)
    → SameStore f g → SameStore g h
    → Did {T = T} by_changes f g g.spoilt s t a b m [] (Ok x)
    → IsNextKey f.bits m s.content last (Some key)
    → Did {T = V} by_changes g h h.spoilt t u b c m (Remove key ∷ []) (Err e)
    → ClearedOne last next f h s u a c m (Err e)
cleared_err f g h s t u a b c m last next key x e same same2 first is second = record {
  next = Some key;
  did = did_then f g h g.spoilt h.spoilt s t u a b c m (Remove key ∷ []) (Err e) same x first same2 (did_err g h h.spoilt t u b c m (Remove key ∷ []) e second);
  visible = λ k equal. subst (λ (q : List ℕ). is_some (seen m (read_in s.content q)) ≡ true) (same_some key k equal) is.0.visible;
  first = tt;
  more = tt;
  stands_at = λ k equal. tt;
}

-- the changes so far and the one in hand, after which it stopped
clearing_more : (f g h : StoreFacts) (s t u : StoreState) (a b c : HostState) (m n : ℕ) (last next : Option (List ℕ)) (r : Result Bool StoreFault)
    → (so : Clearing f g s t a b m n last)
    → (one : ClearedOne last next g h t u b c m r)
    → IsClearing m s.content (so.changes ++ removal_of one.next)
clearing_more f g h s t u a b c m n last next r so one = by one.next refl
  where
    by : (o : Option (List ℕ)) → one.next ≡ o → IsClearing m s.content (so.changes ++ removal_of o)
    by None is = subst (λ (l : List Change). IsClearing m s.content l) (sym (append-nil so.changes)) so.each
    by (Some key) is = more_each m key so.changes s.content t.content so.each (seen_after f m so.changes s.content t.content so.did.content.kept) (one.visible key is)

-- it stopped with a fault
pub stops : (publish : List ℕ) (plain : Plain) (f g h : StoreFacts) (s t u : StoreState) (a b c : HostState) (m n : ℕ) (last next : Option (List ℕ)) (e : StoreFault)
    → SameStore f g → SameStore g h
    → Clearing f g s t a b m n last
    → ClearedOne last next g h t u b c m (Err e)
    → plain.moment ≡ m → Shows plain s.content
    → Turns publish plain Clear f h true s u a c (Err e)
stops publish plain f g h s t u a b c m n last next e same same2 so one at shows =
    let xs = so.changes ++ removal_of one.next in
    let rest = rest_of xs (visible_keys plain) in
    let did : Did {T = Bool} by_changes f h true s u a c m xs (Err e) =
    did_more f g h g.spoilt true s t u a b c m so.changes (removal_of one.next) (Err e) same tt so.did same2
    (spoilt_err g h h.spoilt t u b c m (removal_of one.next) e one.did) (λ of h. absurd (not_so h)) in
    turns_by publish plain Clear f h true s u a c m (xs ++ rest) (Err e) calm_clear at shows
    (begun_order plain xs s.content shows (subst (λ (k : ℕ). IsClearing k s.content xs) (sym at) (clearing_more f g h s t u a b c m n last next (Err e) so one)))
    (did_broken f h true s u a c m xs rest e did) tt
  where
    not_so : true ≡ false → ⊥
    not_so h = cc

-- it gave up
pub gives_up : (publish : List ℕ) (plain : Plain) (f g : StoreFacts) (s t : StoreState) (a b : HostState) (m n : ℕ) (last : Option (List ℕ))
    → Clearing f g s t a b m n last
    → plain.moment ≡ m → Shows plain s.content
    → Turns publish plain Clear f g true s t a b (Err fault.Memory)
gives_up publish plain f g s t a b m n last so at shows =
    let rest = rest_of so.changes (visible_keys plain) in
    turns_by publish plain Clear f g true s t a b m (so.changes ++ rest) (Err fault.Memory) calm_clear at shows
    (begun_order plain so.changes s.content shows (subst (λ (k : ℕ). IsClearing k s.content so.changes) (sym at) so.each))
    (did_gave_up f g g.spoilt s t a b m so.changes rest tt so.did) tt

-- no visible key is left
pub ends : (publish : List ℕ) (plain : Plain) (f g h : StoreFacts) (s t u : StoreState) (a b c : HostState) (m n : ℕ) (last next : Option (List ℕ)) (broken : Bool)
    → SameStore f g → SameStore g h
    → Clearing f g s t a b m n last
    → ClearedOne last next g h t u b c m (Ok false)
    → n < 2 ^ 64 - 1
    → broken ≡ false
    → plain.moment ≡ m → Shows plain s.content
    → Turns publish plain Clear f h (broken || h.spoilt) s u a c (Ok (Cleared n))
ends publish plain f g h s t u a b c m n last next broken same same2 so one less whole at shows =
    turns_by publish plain Clear f h (broken || h.spoilt) s u a c m so.changes (Ok (Cleared n)) calm_clear at shows order
    (did_spoilt f h h.spoilt (broken || h.spoilt) s u a c m so.changes (Ok (Cleared n)) (ap (λ (x : Bool). x || h.spoilt) whole) (did_ok f h h.spoilt s u a c m so.changes false (Cleared n) did))
    counted
  where
    none_left : (o : Option (List ℕ)) → one.next ≡ o → one.next ≡ None
    none_left None is = is
    none_left (Some key) is = absurd (never (one.more ∙ ap is_some is))
      where
        never : false ≡ true → ⊥
        never e = cc

    none : one.next ≡ None
    none = none_left one.next refl

    did : Did {T = Bool} by_changes f h h.spoilt s u a c m so.changes (Ok false)
    did = subst (λ (l : List Change). Did {T = Bool} by_changes f h h.spoilt s u a c m l (Ok false)) (append-nil so.changes)
        (did_more f g h g.spoilt h.spoilt s t u a b c m so.changes [] (Ok false) same tt so.did same2
        (subst (λ (o : Option (List ℕ)). Did {T = Bool} by_changes g h h.spoilt t u b c m (removal_of o) (Ok false)) none one.did) (λ of unspoilt. absurd (ok_no_fault false fault.Memory of)))

    order : IsOrder (removes (visible_keys plain)) so.changes
    order = all_cleared plain f.bits so.changes last s.content t.content shows
        (subst (λ (k : ℕ). IsClearing k s.content so.changes) (sym at) so.each)
        (subst (λ (k : ℕ). IsSeenAfter k so.changes s.content t.content) (sym at) (seen_after f m so.changes s.content t.content so.did.content.kept))
        (subst (λ (k : ℕ). (key : List ℕ) → IsSome (seen k (read_in t.content key)) → follows f.bits last key ≡ true) (sym at) so.behind)
        (subst (λ (k : ℕ). IsNextKey f.bits k t.content last None) (sym at)
        (subst (λ (x : ℕ). IsNextKey x m t.content last None) same.bits (subst (λ (o : Option (List ℕ)). IsNextKey g.bits m t.content last o) none one.first)))

    counted : Cleared n ≡ Cleared (capped (length (visible_keys plain)))
    counted = ap (λ (k : ℕ). Cleared k) (fits (length (visible_keys plain)) (sym so.count_is ∙ same_length (visible_keys plain) so.changes (visible_once plain) order))
      where
        fits : (k : ℕ) → n ≡ k → n ≡ capped k
        fits k is = omega (arith, less, is)

pub cleared_at : {last next : Option (List ℕ)} {f g : StoreFacts} {s t : StoreState} {a b : HostState} {m : ℕ} (x y : Bool) → x ≡ y → ClearedOne last next f g s t a b m (Ok x) → ClearedOne last next f g s t a b m (Ok y)
cleared_at {last} {next} {f} {g} {s} {t} {a} {b} {m} x y same one = subst (λ (z : Bool). ClearedOne last next f g s t a b m (Ok z)) same one
