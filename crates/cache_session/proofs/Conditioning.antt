-- Changes that are made only where something holds of their key.
use Rattle.std.proofs.Common.{◌≡◌, ℕ, Bool, true, false, List, [], ◌∷◌, Option, Some, None, refl, sym, ◌∙◌, ap, subst}
use Rattle.std.specs.Prelude.{Result, Ok, Err, IfOk, is_some, if◌then◌else◌}
use Rattle.std.specs.Str.{bytes_eq}
use Rattle.cache_model.specs.declared.commands.Command.{Command}
use Rattle.cache_model.specs.declared.commands.Command.TheVariants.{PutAbsent, Replace, ReplaceIf, Remove, RemoveIf}
use Rattle.cache_model.specs.declared.entries.Change.{Change}
use Rattle.cache_model.specs.declared.entries.Change.TheVariants as change
use Rattle.cache_model.specs.declared.entries.Entry.{Entry}
use Rattle.cache_model.specs.declared.entries.Lifespan.{Lifespan}
use Rattle.cache_model.specs.declared.faults.StoreFault.{StoreFault}
use Rattle.cache_model.specs.declared.replies.Reply.{Reply}
use Rattle.cache_model.specs.declared.replies.Reply.TheVariants.{Done, Kept, Nothing, Differs}
use Rattle.cache_model.specs.Plain.{Plain, Effect, nothing, puts, removes, effect_of, plain_reply, visible_entry, has_value, put_now, until_of}
use Rattle.cache_disk.specs.State.{HostState}
use Rattle.store_trait.specs.Meaning.{read_in, seen, key_of, StoreFacts, StoreState}
use Rattle.store_trait.specs.Keeping.{SameStore}
use Rattle.cache_session.specs.declared.conditions.Condition.{Condition}
use Rattle.cache_session.specs.declared.conditions.Condition.TheVariants.{Unseen, Visible, HasValue}
use Rattle.cache_session.specs.Changing.{IsOrder, Shows, put_of}
use Rattle.cache_session.specs.Conditions.{refusal, changes_where, reply_where, WroteWhere}
use Rattle.cache_session.specs.Turns.{Did, Way, by_changes, way_of, Turns}
use Rattle.cache_session.proofs.Keeping.{did_ok, did_err, did_then, none_err}
use Rattle.cache_session.proofs.Shown.{order_put, order_remove}
use Rattle.cache_session.proofs.Turning.{IsCalm, turns_by}

-- the effect of a change that is refused so
abbrev pub effect_where : Option Reply → Change → Effect
effect_where None (change.Put key entry) = puts key entry
effect_where None (change.Remove key) = removes (key ∷ [])
effect_where (Some reply) change = nothing

order_where : (refused : Option Reply) (change : Change) → IsOrder (effect_where refused change) (changes_where refused change)
order_where None (change.Put key entry) = order_put key entry
order_where None (change.Remove key) = order_remove key
order_where (Some reply) change = λ key. refl

reply_visible : (e : Option Entry) → (if is_some e then Done else Nothing) ≡ reply_where (refusal Visible e)
reply_visible None = refl
reply_visible (Some e) = refl

reply_value : (old : List ℕ) (e : Option Entry) → (if has_value old e then Done else (if is_some e then Differs else Nothing)) ≡ reply_where (refusal (HasValue old) e)
reply_value old None = refl
reply_value old (Some e) = by (bytes_eq e.value old)
  where
    by : (b : Bool) → (if b then Done else Differs) ≡ reply_where (if b then None else Some Differs)
    by true = refl
    by false = refl

-- what a command does and answers is a change where a condition holds of its key
pub record IsWhere (publish : List ℕ) (plain : Plain) (command : Command) (condition : Condition) (change : Change) : Type 0 where
  pub effect : effect_of plain command ≡ effect_where (refusal condition (visible_entry plain (key_of change))) change
  pub reply : plain_reply publish plain command ≡ Some (reply_where (refusal condition (visible_entry plain (key_of change))))

pub turns_where : (publish : List ℕ) (plain : Plain) (command : Command) (condition : Condition) (change : Change) (f g : StoreFacts) (p : Bool) (s t : StoreState) (a b : HostState) (moment : ℕ) (result : Result Reply StoreFault)
    → IsCalm command
    → way_of command ≡ by_changes
    → IsWhere publish plain command condition change
    → plain.moment ≡ moment → Shows plain s.content
    → WroteWhere condition change f g p s t a b moment result
    → Turns publish plain command f g p s t a b result
turns_where publish plain command condition change f g p s t a b moment result calm way is at shows wrote =
    turns_by publish plain command f g p s t a b moment (changes_where refused change) result calm at shows
    (subst (λ (e : Effect). IsOrder e (changes_where refused change)) (sym is.effect) (order_where refused change))
    (subst (λ (w : Way). Did w f g p s t a b moment (changes_where refused change) result) (sym way)
    (subst (λ (r : Option Reply). Did by_changes f g p s t a b moment (changes_where r change) result) same wrote.did))
    (subst (λ (wanted : Option Reply). IfOk result (λ reply. Replies wanted reply)) (sym is.reply)
    (subst (λ (r : Option Reply). IfOk result (λ reply. reply ≡ reply_where r)) same wrote.reply))
  where
    Replies : Option Reply → Reply → Type 0
    Replies None reply = Unit {0}
    Replies (Some wanted) reply = reply ≡ wanted

    refused : Option Reply
    refused = refusal condition (visible_entry plain (key_of change))

    same : refusal condition (seen moment (read_in s.content (key_of change))) ≡ refused
    same = ap (refusal condition) (ap (λ (m : ℕ). seen m (read_in s.content (key_of change))) (sym at) ∙ shows (key_of change))

-- the change was made, or was begun

module _ {T : Type 0} (condition : Condition) (change : Change) (f g h : StoreFacts) (s t u : StoreState) (a b c : HostState) (moment : ℕ) (entry : Option Entry)
    (same : SameStore f g)
    (first : Did {T = Option Entry} by_changes f g g.spoilt s t a b moment [] (Ok entry))
    (is : entry ≡ seen moment (read_in s.content (key_of change)))
    (holds : refusal condition entry ≡ None)
    (same2 : SameStore g h) where
  pub wrote : (x : T) → Did {T = T} by_changes g h h.spoilt t u b c moment (change ∷ []) (Ok x) → WroteWhere condition change f h h.spoilt s u a c moment (Ok Done)
  wrote x second = record {
    did = subst (λ (r : Option Reply). Did {T = Reply} by_changes f h h.spoilt s u a c moment (changes_where r change) (Ok Done)) (sym (ap (refusal condition) (sym is) ∙ holds))
        (did_then f g h g.spoilt h.spoilt s t u a b c moment (change ∷ []) (Ok Done) same entry first same2 (did_ok g h h.spoilt t u b c moment (change ∷ []) x Done second));
    reply = ap reply_where (sym (ap (refusal condition) (sym is) ∙ holds));
  }

  pub wrote_not : (e : StoreFault) → Did {T = T} by_changes g h h.spoilt t u b c moment (change ∷ []) (Err e) → WroteWhere condition change f h h.spoilt s u a c moment (Err e)
  wrote_not e second = record {
    did = subst (λ (r : Option Reply). Did {T = Reply} by_changes f h h.spoilt s u a c moment (changes_where r change) (Err e)) (sym (ap (refusal condition) (sym is) ∙ holds))
        (did_then f g h g.spoilt h.spoilt s t u a b c moment (change ∷ []) (Err e) same entry first same2 (did_err g h h.spoilt t u b c moment (change ∷ []) e second));
    reply = tt;
  }

-- it was refused, or the key wasn't read

pub refused : (condition : Condition) (change : Change) (f g : StoreFacts) (s t : StoreState) (a b : HostState) (moment : ℕ) (entry : Option Entry) (reply : Reply)
    → Did {T = Option Entry} by_changes f g g.spoilt s t a b moment [] (Ok entry)
    → entry ≡ seen moment (read_in s.content (key_of change))
    → refusal condition entry ≡ Some reply
    → WroteWhere condition change f g g.spoilt s t a b moment (Ok reply)
refused condition change f g s t a b moment entry reply first is holds =
    let some : refusal condition (seen moment (read_in s.content (key_of change))) ≡ Some reply = ap (refusal condition) (sym is) ∙ holds in
    record {
      did = subst (λ (r : Option Reply). Did by_changes f g g.spoilt s t a b moment (changes_where r change) (Ok reply)) (sym some) (did_ok f g g.spoilt s t a b moment [] entry reply first);
      reply = ap reply_where (sym some);
    }

pub unread : {T : Type 0} (condition : Condition) (change : Change) (f g : StoreFacts) (s t : StoreState) (a b : HostState) (moment : ℕ) (e : StoreFault)
    → Did {T = T} by_changes f g g.spoilt s t a b moment [] (Err e)
    → WroteWhere condition change f g g.spoilt s t a b moment (Err e)
unread condition change f g s t a b moment e first = record { did = none_err f g g.spoilt s t a b moment (changes_where (refusal condition (seen moment (read_in s.content (key_of change)))) change) e first; reply = tt }

-- the commands that are so

module _ (publish : List ℕ) (plain : Plain) (key : List ℕ) where
  pub where_absent : (value : List ℕ) (lifespan : Lifespan) → IsWhere publish plain (PutAbsent key value lifespan) Unseen (put_of key value (until_of plain.moment lifespan))
  where_absent value lifespan = record { effect = effect (visible_entry plain key); reply = ap (λ (r : Reply). Some r) (reply (visible_entry plain key)) }
    where
      put : Change
      put = put_of key value (until_of plain.moment lifespan)

      effect : (e : Option Entry) → (if is_some e then nothing else put_now plain key value lifespan) ≡ effect_where (refusal Unseen e) put
      effect None = refl
      effect (Some e) = refl

      reply : (e : Option Entry) → (if is_some e then Kept else Done) ≡ reply_where (refusal Unseen e)
      reply None = refl
      reply (Some e) = refl

  pub where_visible : (value : List ℕ) (lifespan : Lifespan) → IsWhere publish plain (Replace key value lifespan) Visible (put_of key value (until_of plain.moment lifespan))
  where_visible value lifespan = record { effect = effect (visible_entry plain key); reply = ap (λ (r : Reply). Some r) (reply_visible (visible_entry plain key)) }
    where
      put : Change
      put = put_of key value (until_of plain.moment lifespan)

      effect : (e : Option Entry) → (if is_some e then put_now plain key value lifespan else nothing) ≡ effect_where (refusal Visible e) put
      effect None = refl
      effect (Some e) = refl

  pub where_value : (old value : List ℕ) (lifespan : Lifespan) → IsWhere publish plain (ReplaceIf key old value lifespan) (HasValue old) (put_of key value (until_of plain.moment lifespan))
  where_value old value lifespan = record { effect = effect (visible_entry plain key); reply = ap (λ (r : Reply). Some r) (reply_value old (visible_entry plain key)) }
    where
      put : Change
      put = put_of key value (until_of plain.moment lifespan)

      effect : (e : Option Entry) → (if has_value old e then put_now plain key value lifespan else nothing) ≡ effect_where (refusal (HasValue old) e) put
      effect None = refl
      effect (Some e) = by (bytes_eq e.value old)
        where
          by : (b : Bool) → (if b then put_now plain key value lifespan else nothing) ≡ effect_where (if b then None else Some Differs) put
          by true = refl
          by false = refl

  pub where_there : IsWhere publish plain (Remove key) Visible (change.Remove key)
  where_there = record { effect = effect (visible_entry plain key); reply = ap (λ (r : Reply). Some r) (reply_visible (visible_entry plain key)) }
    where
      effect : (e : Option Entry) → (if is_some e then removes (key ∷ []) else nothing) ≡ effect_where (refusal Visible e) (change.Remove key)
      effect None = refl
      effect (Some e) = refl

  pub where_there_with : (old : List ℕ) → IsWhere publish plain (RemoveIf key old) (HasValue old) (change.Remove key)
  where_there_with old = record { effect = effect (visible_entry plain key); reply = ap (λ (r : Reply). Some r) (reply_value old (visible_entry plain key)) }
    where
      effect : (e : Option Entry) → (if has_value old e then removes (key ∷ []) else nothing) ≡ effect_where (refusal (HasValue old) e) (change.Remove key)
      effect None = refl
      effect (Some e) = by (bytes_eq e.value old)
        where
          by : (b : Bool) → (if b then removes (key ∷ []) else nothing) ≡ effect_where (if b then None else Some Differs) (change.Remove key)
          by true = refl
          by false = refl
