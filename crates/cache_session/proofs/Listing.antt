-- A walk that lists the visible keys.
use Rattle.std.proofs.Common.{◌≡◌, ℕ, suc, ◌+◌, ◌-◌, Bool, true, false, List, [], ◌∷◌, ◌++◌, length, map, Option, Some, None, refl, sym, ◌∙◌, ap, subst, arith, length-append, slice_index_or}
use Rattle.std.proofs.lemmas.Option.{slice_get-get_or}
use Rattle.std.proofs.Math.Seq.{get_or-append_seam}
use Rattle.std.specs.Prelude.{Ok, Err, is_some, if◌then◌else◌}
use Rattle.std.proofs.lemmas.List.{append-nil}
use Rattle.std.specs.List.{list_any}
use Rattle.std.specs.List.Sorted.{IsPermutation, IsSorted}
use Rattle.std.specs.Str.{bytes_eq}
use Rattle.std.specs.Ordering.{nat_cmp}
use Rattle.std.specs.Cmp.Lexicographic.{slice_cmp}
use Rattle.cache_model.specs.declared.commands.Command.TheVariants.{Keys}
use Rattle.cache_model.specs.declared.entries.Change.{Change}
use Rattle.cache_model.specs.declared.entries.Change.TheVariants.{Remove}
use Rattle.cache_model.specs.declared.faults.StoreFault.{StoreFault}
use Rattle.cache_model.specs.declared.faults.StoreFault.TheVariants as fault
use Rattle.cache_model.specs.declared.replies.Reply.TheVariants as reply
use Rattle.cache_model.specs.Changes.{KeyChange}
use Rattle.cache_model.specs.Plain.{Plain, removes, visible_keys}
use Rattle.cache_disk.specs.State.{HostState}
use Rattle.store_trait.specs.Meaning.{StoreFacts, StoreState}
use Rattle.store_trait.specs.Keeping.{SameStore, HoldsNow}
use Rattle.store_trait.specs.Calls.{IsNextKey}
use Rattle.cache_session.specs.Changing.{of_key, IsOrder, Shows}
use Rattle.cache_session.specs.Turns.{Turns}
use Rattle.cache_session.specs.Walks.{WalkedOne, ListedOne, last_in, keys_in}
use Rattle.cache_session.proofs.Keeping.{did_then, did_ok, did_err, did_refused}
use Rattle.cache_session.proofs.Turning.{turns_by, calm_keys}
use Rattle.cache_session.proofs.Sizing as size
use Rattle.cache_session.proofs.Sizing.{Sizing}
use Rattle.cache_session.proofs.Sorting.{count, sorted_visible}

-- the removals of some keys, each of which stands for one
abbrev pub removals : List (List ℕ) → List Change
removals = map Remove

-- so far the keys of a list were passed
pub record Listing (f g : StoreFacts) (old new : StoreState) (before after : HostState) (moment : ℕ) (list : List (List ℕ)) : Type 0 where
  pub passed : ℕ
  pub sizing : Sizing f g old new before after moment passed (last_in list)
  pub is : sizing.passed ≡ removals list

pub begins : (f : StoreFacts) (s : StoreState) (a : HostState) (moment : ℕ) → s.stands → HoldsNow f s a.turn → Listing f f s s a a moment []
unfolding size.begins
begins f s a moment stands now = record { passed = 0; sizing = size.begins f s a moment stands now; is = refl }

last_added : (list : List (List ℕ)) (key : List ℕ) → last_in (list ++ key ∷ []) ≡ Some key
last_added list key =
    let many : length (list ++ key ∷ []) - 1 ≡ length list = omega (arith, length-append list (key ∷ [])) in
    slice_get-get_or (list ++ key ∷ []) (length (list ++ key ∷ []) - 1) key (omega (arith, length-append list (key ∷ [])))
    ∙ ap (λ (n : ℕ). Some (slice_index_or (list ++ key ∷ []) n key)) many
    ∙ ap (λ (k : List ℕ). Some k) (get_or-append_seam list key [] key)

removals_added : (list : List (List ℕ)) (key : List ℕ) → removals (list ++ key ∷ []) ≡ removals list ++ Remove key ∷ []
removals_added [] key = refl
removals_added (x ∷ list) key = ap (λ (l : List Change). Remove x ∷ l) (removals_added list key)

pub goes : (f g h : StoreFacts) (s t u : StoreState) (a b c : HostState) (m : ℕ) (old new : List (List ℕ))
    → SameStore f g → SameStore g h
    → Listing f g s t a b m old
    → ListedOne old new g h t u b c m (Ok true)
    → Listing f h s u a c m new
unfolding size.goes_to
goes f g h s t u a b c m old new same same2 so one = by one.next refl
  where
    by : (o : Option (List ℕ)) → one.next ≡ o → Listing f h s u a c m new
    by None is = absurd (never (one.more ∙ ap is_some is))
      where
        never : true ≡ false → ⊥
        never e = cc
    by (Some key) is =
        let added : new ≡ old ++ key ∷ [] = one.added ∙ ap (λ (o : Option (List ℕ)). old ++ keys_in o) is in
        subst (λ (l : List (List ℕ)). Listing f h s u a c m l) (sym added)
        record {
          passed = so.passed + 1;
          sizing = size.goes_to f g h s t u a b c m so.passed (last_in old) (last_in (old ++ key ∷ [])) key true same same2 so.sizing one.did
              (subst (λ (o : Option (List ℕ)). IsNextKey g.bits m t.content (last_in old) o) is one.first) (last_added old key);
          is = ap (λ (l : List Change). l ++ Remove key ∷ []) so.is ∙ sym (removals_added old key);
        }

-- as a walk that lists nothing
walked_none : (f g : StoreFacts) (s t : StoreState) (a b : HostState) (m : ℕ) (old new : List (List ℕ)) → ListedOne old new f g s t a b m (Ok false) → WalkedOne (last_in old) (last_in new) f g s t a b m (Ok false)
walked_none f g s t a b m old new one = record { next = one.next; did = one.did; first = one.first; more = one.more; stands_at = λ key is. absurd (never (one.more ∙ ap is_some is)) }
  where
    never : false ≡ true → ⊥
    never e = cc

pub listed_at : {old new : List (List ℕ)} {f g : StoreFacts} {s t : StoreState} {a b : HostState} {m : ℕ} (x y : Bool) → x ≡ y → ListedOne old new f g s t a b m (Ok x) → ListedOne old new f g s t a b m (Ok y)
listed_at {old} {new} {f} {g} {s} {t} {a} {b} {m} x y same one = subst (λ (z : Bool). ListedOne old new f g s t a b m (Ok z)) same one

-- the changes of a key among removals are as many as it stands among their keys
counted : (key : List ℕ) (list : List (List ℕ)) → length (of_key key (removals list)) ≡ count key list
counted key [] = refl
counted key (k ∷ list) = by (bytes_eq k key) (counted key list)
  where
    by : (b : Bool) → length (of_key key (removals list)) ≡ count key list → length (if b then None ∷ of_key key (removals list) else of_key key (removals list)) ≡ (if b then suc (count key list) else count key list)
    by true is = ap suc is
    by false is = is

-- all visible keys are listed, and sorted
pub ends : (publish : List ℕ) (plain : Plain) (f g h : StoreFacts) (s t u : StoreState) (a b c : HostState) (m : ℕ) (old new sorted : List (List ℕ))
    → SameStore f g → SameStore g h
    → Listing f g s t a b m old → ListedOne old new g h t u b c m (Ok false)
    → IsPermutation new sorted → IsSorted (slice_cmp nat_cmp) sorted
    → plain.moment ≡ m → Shows plain s.content
    → Turns publish plain Keys f h h.spoilt s u a c (Ok (reply.Keys sorted))
ends publish plain f g h s t u a b c m old new sorted same same2 so one moved up at shows =
    turns_by publish plain Keys f h h.spoilt s u a c m [] (Ok (reply.Keys sorted)) calm_keys at shows (λ key. refl)
    (did_then f g h g.spoilt h.spoilt s t u a b c m [] (Ok (reply.Keys sorted)) same tt so.sizing.did same2 (did_ok g h h.spoilt t u b c m [] false (reply.Keys sorted) one.did))
    (ap (λ (l : List (List ℕ)). reply.Keys l) (sorted_visible plain new sorted counts moved up))
  where
    none_left : (o : Option (List ℕ)) → one.next ≡ o → new ≡ old
    none_left None is = one.added ∙ ap (λ (o : Option (List ℕ)). old ++ keys_in o) is ∙ append-nil old
    none_left (Some key) is = absurd (never (one.more ∙ ap is_some is))
      where
        never : false ≡ true → ⊥
        never e = cc

    order : IsOrder (removes (visible_keys plain)) (removals old)
    order = subst (λ (l : List Change). IsOrder (removes (visible_keys plain)) l) so.is
        (size.all_passed plain f g h s t u a b c m so.passed (last_in old) (last_in new) same so.sizing (walked_none g h t u b c m old new one) at shows)

    removal : KeyChange
    removal = None

    ones : (b : Bool) → length (if b then removal ∷ [] else []) ≡ (if b then 1 else 0)
    ones true = refl
    ones false = refl

    counts : (key : List ℕ) → count key new ≡ (if list_any (bytes_eq key) (visible_keys plain) then 1 else 0)
    counts key = ap (count key) (none_left one.next refl) ∙ sym (counted key old) ∙ ap (λ (l : List KeyChange). length l) (order key) ∙ ones (list_any (bytes_eq key) (visible_keys plain))

pub stops : (publish : List ℕ) (plain : Plain) (f g h : StoreFacts) (s t u : StoreState) (a b c : HostState) (m : ℕ) (old new : List (List ℕ)) (e : StoreFault)
    → SameStore f g → SameStore g h
    → Listing f g s t a b m old → ListedOne old new g h t u b c m (Err e)
    → plain.moment ≡ m → Shows plain s.content
    → Turns publish plain Keys f h h.spoilt s u a c (Err e)
stops publish plain f g h s t u a b c m old new e same same2 so one at shows =
    turns_by publish plain Keys f h h.spoilt s u a c m [] (Err e) calm_keys at shows (λ key. refl)
    (did_then f g h g.spoilt h.spoilt s t u a b c m [] (Err e) same tt so.sizing.did same2 (did_err g h h.spoilt t u b c m [] e one.did)) tt

-- it gave up
pub gives_up : (publish : List ℕ) (plain : Plain) (f g : StoreFacts) (s t : StoreState) (a b : HostState) (m : ℕ) (list : List (List ℕ))
    → Listing f g s t a b m list
    → plain.moment ≡ m → Shows plain s.content
    → Turns publish plain Keys f g g.spoilt s t a b (Err fault.Memory)
gives_up publish plain f g s t a b m list so at shows =
    turns_by publish plain Keys f g g.spoilt s t a b m [] (Err fault.Memory) calm_keys at shows (λ key. refl)
    (did_refused f g g.spoilt s t a b m tt so.sizing.did) tt
