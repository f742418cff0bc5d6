-- A turn, from the changes that were made.
use Rattle.std.proofs.Common.{inl, ◌≡◌, ℕ, ◌≤◌, Bool, true, false, List, [], refl, sym, ◌∙◌, ap, subst, arith}
use Rattle.std.specs.Prelude.{Result, Ok, Err, IfOk, OnOk, ◌||◌, ◌&&◌}
use Rattle.cache_model.specs.declared.commands.Command.{Command}
use Rattle.cache_model.specs.declared.commands.Command.TheVariants.{Put, PutAbsent, Replace, ReplaceIf, Get, Has, Remove, RemoveIf, Size, Keys, Clear}
use Rattle.cache_model.specs.declared.entries.Change.{Change}
use Rattle.cache_model.specs.declared.faults.StoreFault.{StoreFault}
use Rattle.cache_model.specs.declared.replies.Reply.{Reply}
use Rattle.cache_model.specs.Plain.{Plain, effect_of, plain_after, plain_reply, moment_after}
use Rattle.cache_model.specs.Changes.{changes_by}
use Rattle.cache_disk.specs.State.{HostState}
use Rattle.cache_disk.proofs.Runs.{Silent-same}
use Rattle.store_trait.specs.Meaning.{StoreFacts, StoreState}
use Rattle.store_trait.specs.Keeping.{HoldsNow, IsOnly}
use Rattle.store_trait.proofs.Runs.{old_same, old_whole_same, leaves_same}
use Rattle.cache_session.specs.Changing.{IsOrder, Shows, has_some}
use Rattle.cache_session.specs.Turns.{IsContentAfter, Did, way_of, by_changes, Turns, is_settling, is_idle, IsReplyOf, IsStoreReply}
use Rattle.cache_session.proofs.Keeping.{ok_map, content_same}
use Rattle.cache_session.proofs.Numbers.{draws_none}
use Rattle.cache_session.proofs.Shown.{shows_after}

pub never : false ≡ true → ⊥
never h = cc

both : (a b : Bool) → (a && b) ≡ true → (a ≡ true) × (b ≡ true)
both true b h = (refl, h)
both false b h = cc

rest : (a b : Bool) → a ≡ false → (a || b) ≡ true → b ≡ true
rest false b none h = h
rest true b none h = cc

-- a command on the store's keys: it leaves the moment, settles nothing, and isn't answered by the store itself
pub record IsCalm (command : Command) : Type 1 where
  pub moment : (m : ℕ) → moment_after m command ≡ m
  pub settles : is_settling command ≡ false
  pub idle : is_idle command ≡ false
  pub store : (f g : StoreFacts) (a b : HostState) (reply : Reply) → IsStoreReply command f g a b reply

pub calm_put : (key value : List ℕ) (lifespan : _) → IsCalm (Put key value lifespan)
calm_put key value lifespan = record { moment = λ m. refl; settles = refl; idle = refl; store = λ f g a b reply. tt }

pub calm_put_absent : (key value : List ℕ) (lifespan : _) → IsCalm (PutAbsent key value lifespan)
calm_put_absent key value lifespan = record { moment = λ m. refl; settles = refl; idle = refl; store = λ f g a b reply. tt }

pub calm_replace : (key value : List ℕ) (lifespan : _) → IsCalm (Replace key value lifespan)
calm_replace key value lifespan = record { moment = λ m. refl; settles = refl; idle = refl; store = λ f g a b reply. tt }

pub calm_replace_if : (key old value : List ℕ) (lifespan : _) → IsCalm (ReplaceIf key old value lifespan)
calm_replace_if key old value lifespan = record { moment = λ m. refl; settles = refl; idle = refl; store = λ f g a b reply. tt }

pub calm_get : (key : List ℕ) → IsCalm (Get key)
calm_get key = record { moment = λ m. refl; settles = refl; idle = refl; store = λ f g a b reply. tt }

pub calm_has : (key : List ℕ) → IsCalm (Has key)
calm_has key = record { moment = λ m. refl; settles = refl; idle = refl; store = λ f g a b reply. tt }

pub calm_remove : (key : List ℕ) → IsCalm (Remove key)
calm_remove key = record { moment = λ m. refl; settles = refl; idle = refl; store = λ f g a b reply. tt }

pub calm_remove_if : (key old : List ℕ) → IsCalm (RemoveIf key old)
calm_remove_if key old = record { moment = λ m. refl; settles = refl; idle = refl; store = λ f g a b reply. tt }

pub calm_size : IsCalm Size
calm_size = record { moment = λ m. refl; settles = refl; idle = refl; store = λ f g a b reply. tt }

pub calm_keys : IsCalm Keys
calm_keys = record { moment = λ m. refl; settles = refl; idle = refl; store = λ f g a b reply. tt }

pub calm_clear : IsCalm Clear
calm_clear = record { moment = λ m. refl; settles = refl; idle = refl; store = λ f g a b reply. tt }

-- what holds of each reply holds of this one
pub any_reply : (P : Reply → Type 0) (result : Result Reply StoreFault) → ((reply : Reply) → P reply) → IfOk result P
any_reply P (Ok reply) each = each reply
any_reply P (Err e) each = tt

-- a content after the changes of a command shows the plain map after it
shows_then : (plain : Plain) (command : Command) (f g : StoreFacts) (p : Bool) (s t : StoreState) (a b : HostState) (changes : List Change) (result : Result Reply StoreFault)
    → Shows plain s.content
    → plain.moment ≤ moment_after plain.moment command
    → IsOrder (effect_of plain command) changes
    → Did (way_of command) f g p s t a b plain.moment changes result
    → OnOk result (Shows (plain_after plain command) t.content)
shows_then plain command f g p s t a b changes result shows later order did =
    ok_map (IsContentAfter f plain.moment b.turn changes s t) (Shows (plain_after plain command) t.content) result
    (λ after. shows_after f plain command changes s.content t.content shows later order after.kept) did.content

-- the changes of a command were made, and answered as the plain map says
pub turns_by : (publish : List ℕ) (plain : Plain) (command : Command) (f g : StoreFacts) (p : Bool) (s t : StoreState) (a b : HostState) (moment : ℕ) (changes : List Change) (result : Result Reply StoreFault)
    → IsCalm command
    → plain.moment ≡ moment
    → Shows plain s.content
    → IsOrder (effect_of plain command) changes
    → Did (way_of command) f g p s t a b moment changes result
    → IfOk result (λ reply. IsReplyOf (plain_reply publish plain command) reply)
    → Turns publish plain command f g p s t a b result
turns_by publish plain command f g p s t a b moment changes result calm at shows order did reply =
    record {
      changes = changes;
      order = order;
      did = now;
      shows = shows_then plain command f g p s t a b changes result shows (omega (arith, calm.moment plain.moment)) order now;
      reply = reply;
      store = any_reply (IsStoreReply command f g a b) result (calm.store f g a b);
      promised = λ key is.
          let held = both f.firm (has_some (changes_by (effect_of plain command) key)) (rest (is_settling command) (f.firm && has_some (changes_by (effect_of plain command) key)) calm.settles is) in
          did.firm held.0 key (ap has_some (order key) ∙ held.1);
      idle = λ is. absurd (never (sym calm.idle ∙ is));
    }
  where
    now : Did (way_of command) f g p s t a b plain.moment changes result
    now = subst (λ (m : ℕ). Did (way_of command) f g p s t a b m changes result) (sym at) did

-- a command that makes no change, after whose answer nothing else is possible of any key
pub turns_settled : (publish : List ℕ) (plain : Plain) (command : Command) (f g : StoreFacts) (p : Bool) (s t : StoreState) (a b : HostState) (moment : ℕ) (result : Result Reply StoreFault)
    → plain.moment ≡ moment
    → Shows plain s.content
    → plain.moment ≤ moment_after plain.moment command
    → is_idle command ≡ false
    → IsOrder (effect_of plain command) []
    → Did (way_of command) f g p s t a b moment [] result
    → IfOk result (λ reply. IsReplyOf (plain_reply publish plain command) reply)
    → IfOk result (IsStoreReply command f g a b)
    → OnOk result ((key : List ℕ) → IsOnly g t b.turn key)
    → Turns publish plain command f g p s t a b result
turns_settled publish plain command f g p s t a b moment result at shows later busy order did reply store settled = record {
  changes = [];
  order = order;
  did = now;
  shows = shows_then plain command f g p s t a b [] result shows later order now;
  reply = reply;
  store = store;
  promised = λ key is. ok_map ((k : List ℕ) → IsOnly g t b.turn k) (IsOnly g t b.turn key) result (λ all. all key) settled;
  idle = λ is. absurd (never (sym busy ∙ is));
}
  where
    now : Did (way_of command) f g p s t a b plain.moment [] result
    now = subst (λ (m : ℕ). Did (way_of command) f g p s t a b m [] result) (sym at) did

-- a command that makes no change and promises nothing
pub turns_still : (publish : List ℕ) (plain : Plain) (command : Command) (f g : StoreFacts) (p : Bool) (s t : StoreState) (a b : HostState) (moment : ℕ) (result : Result Reply StoreFault)
    → plain.moment ≡ moment
    → Shows plain s.content
    → plain.moment ≤ moment_after plain.moment command
    → is_settling command ≡ false
    → ((key : List ℕ) → changes_by (effect_of plain command) key ≡ [])
    → Did (way_of command) f g p s t a b moment [] result
    → IfOk result (λ reply. IsReplyOf (plain_reply publish plain command) reply)
    → IfOk result (IsStoreReply command f g a b)
    → (is_idle command ≡ true → b.turn ≡ a.turn)
    → Turns publish plain command f g p s t a b result
turns_still publish plain command f g p s t a b moment result at shows later calm none did reply store idle = record {
  changes = [];
  order = λ key. sym (none key);
  did = now;
  shows = shows_then plain command f g p s t a b [] result shows later (λ key. sym (none key)) now;
  reply = reply;
  store = store;
  promised = λ key is.
      let held = both f.firm (has_some (changes_by (effect_of plain command) key)) (rest (is_settling command) (f.firm && has_some (changes_by (effect_of plain command) key)) calm is) in
      absurd (never (ap has_some (sym (none key)) ∙ held.1));
  idle = idle;
}
  where
    now : Did (way_of command) f g p s t a b plain.moment [] result
    now = subst (λ (m : ℕ). Did (way_of command) f g p s t a b m [] result) (sym at) did

-- nothing was done
pub did_nothing : {T : Type 0} (f : StoreFacts) (s : StoreState) (a : HostState) (p : Bool) (m : ℕ) (x : T) → s.stands → HoldsNow f s a.turn → Did {T = T} by_changes f f p s s a a m [] (Ok x)
did_nothing f s a p m x stands now = record {
  stands = λ _. stands;
  others = leaves_same f.owns false a;
  silent = Silent-same a;
  keeps = record {
    past = λ t key r k before may. may;
    since = λ t key r k after before may. inl (old_same (f.forgets key) (s.may a.turn key) r k (subst (λ (n : ℕ). s.may n key r k) (omega arith) may));
    past_whole = λ t c k before may. may;
    since_whole = λ ordered t c k after before may. inl (old_whole_same f.forgets (s.whole a.turn) c k (subst (λ (n : ℕ). s.whole n c k) (omega arith) may));
  };
  opens = record { past = λ t before opens. opens; since = λ sound t after before. subst (λ (n : ℕ). s.opens n) (omega arith) (now.opens sound) };
  sound = λ sound. sound;
  undamaged = λ is d of. cc;
  spent = λ n of. cc;
  content = content_same f m a.turn [] s s (λ key. refl);
  refused = λ of unspoilt. cc;
  firm = λ firm key has. absurd (never has);
  drawn = omega arith;
  made = omega arith;
  numbers = (draws_none f).numbers;
  parts = refl;
}
