-- What a store in memory stands for.
use Rattle.std.proofs.Common.{◌≡◌, ℕ, ◌≤◌, true, false, List, [], None, refl, arith}
use Rattle.cache_model.specs.declared.replies.Turned.TheVariants.{Idle}
use Rattle.cache_disk.specs.State.{HostState}
use Rattle.store_trait.specs.declared.heap_store.HeapStore.{HeapStore}
use Rattle.store_trait.specs.Meaning.{Content, StoreFacts, StoreState, read_in}
use Rattle.store_trait.specs.Keeping.{Carries, HoldsNow}

-- what it holds
abbrev pub heap_content : HeapStore → Content
heap_content store = store.entries.content

-- it is never spoilt, forgets no key, owns no file, counts none, and has no parts
abbrev pub heap_facts : HeapStore → StoreFacts
heap_facts store = record {
  bits = store.entries.bits;
  spoilt = false;
  usable = Unit {0};
  latest = store.latest;
  forgets = λ key. ⊥;
  owns = λ name. false;
  ordered = true;
  firm = true;
  quiet = λ key. true;
  drawn = 0;
  made = 0;
  numbers = None;
  parts = [];
  moves = λ change a b. b ≡ a;
  empties = λ a b. b ≡ a;
  room = λ a b. b ≡ a;
  steps = λ files kind turned a b. (turned ≡ Idle) × (b ≡ a);
  compacts = λ files mid file turned turns a b. (turned ≡ Idle) × (turns ≡ 0) × (b ≡ a);
  turns = λ files mid file rows. 0;
  compacts_all = λ files mid turns a b. (turns ≡ 0) × (b ≡ a);
  turns_all = λ files mid rows turns. turns ≡ 0;
  sweeps = λ files image. Unit {0};
  counts = λ files figures a b. (figures ≡ (0, 0, 0)) × (b ≡ a);
}

-- Only its content is possible, and only now: it has no history.
abbrev pub heap_means : HeapStore → HostState → StoreState
heap_means store host = record {
  stands = Unit {0};
  content = store.entries.content;
  may = λ t key reading mark. (t ≡ host.turn) × (reading ≡ read_in store.entries.content key) × (store.latest ≤ mark);
  whole = λ t content mark. (t ≡ host.turn) × ((key : List ℕ) → read_in content key ≡ read_in store.entries.content key) × (store.latest ≤ mark);
  opens = λ t. Unit {0};
  sound = Unit {0};
  spent = λ s. ⊥;
  most = λ key. 0;
  fetches = λ key. ⊥;
}

-- it stands for the same on a later host
pub heap_carries : (store : HeapStore) (host later : HostState) → host.turn ≤ later.turn → Carries host.turn later.turn (heap_means store host) (heap_means store later)
heap_carries store host later le = record {
  stands = λ stands. stands;
  content = λ key. refl;
  past = λ t key r mark before may. absurd (omega (arith, may.0, before, le));
  since = λ t key r mark from to may. (refl, may.1, may.2);
  past_whole = λ t c mark before may. absurd (omega (arith, may.0, before, le));
  since_whole = λ t c mark from to may. (refl, may.1, may.2);
  opened = λ t before opens. opens;
  opens = λ t from to opens. opens;
  sound = λ sound. sound;
  spent = λ s. (λ x. x, λ x. x);
  most = λ key. refl;
  fetches = λ key. (λ x. x, λ x. x);
}

-- its content is possible
pub heap_possible : (store : HeapStore) (host : HostState) → HoldsNow (heap_facts store) (heap_means store host) host.turn
heap_possible store host = record { each = λ key mark late. (refl, refl, late); whole = λ mark late. (refl, λ key. refl, late); fits = λ c mark is key. (is.0, is.1 key, is.2); opens = λ sound. tt }
