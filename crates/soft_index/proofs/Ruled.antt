-- What a store says goes over to the same store with a rule that says which keys may be forgotten.
use Rattle.std.proofs.Common.{◌≡◌, ◌≤◌, ⊎_elim, inl, inr, sym, ap, subst, arith, Bool, ℕ, true, List, Option}
use Rattle.std.specs.Prelude.{Result, Ok, Err, OnOk}
use Rattle.cache_model.specs.declared.entries.Answer.{Answer}
use Rattle.cache_model.specs.declared.entries.Answer.TheVariants.{Known, Gone, Unknown}
use Rattle.cache_model.specs.declared.entries.Change.{Change}
use Rattle.cache_model.specs.declared.commands.StepKind.{StepKind}
use Rattle.cache_model.specs.declared.commands.StepKind.TheVariants.{Index, Flush, Compact, Evict, Reap, Rotate}
use Rattle.cache_model.specs.declared.replies.Turned.{Turned}
use Rattle.cache_model.specs.declared.faults.StoreFault.{StoreFault}
use Rattle.cache_disk.specs.State.{HostState}
use Rattle.store_trait.specs.Meaning.{Reading, Content, read_in, key_of, changed, StoreFacts, StoreState}
use Rattle.store_trait.specs.Keeping.{Keeps, IsOnly, IsSettled, IsKept, IsKeptAtMarks}
use Rattle.store_trait.specs.Calls.{Acts, Plainly, DrawsNone, DrawsOne, DrawsBy, IsAnswer, Walked, Written, SyncedStore, Stepped, CompactedAll, CompactedFile, Figured, known_bytes}
use Rattle.store_trait.proofs.Alike.{alike_weaker}
use Rattle.store_trait.proofs.Runs.{old_weaker, new_weaker, old_whole_weaker, new_whole_weaker}
use Rattle.std.specs.Fn.{Shared}
use denote.Ref.{Bor}
use Rattle.soft_index.specs.Rule.{ruled, Allows, IsRuled, Keeps as Kept}

module _ (f g : StoreFacts) (u v : Type 0) (forgets : List ℕ → Type 0)
    (few : (key : List ℕ) → f.forgets key → forgets key)
    (few_after : (key : List ℕ) → g.forgets key → forgets key) where
  abbrev before : StoreFacts
  before = ruled f u forgets

  abbrev after : StoreFacts
  after = ruled g v forgets

  pub keeps_ruled : (from to moment : ℕ) (old new : StoreState) (w : Content) → Keeps f from to moment old new w → Keeps before from to moment old new w
  keeps_ruled from to moment old new w keeps = record {
    past = keeps.past;
    since = λ t key r m late until may. ⊎_elim
        (λ was. inl (old_weaker (f.forgets key) (forgets key) (old.may from key) r m (few key) was))
        (λ is. inr (new_weaker (f.forgets key) (forgets key) moment (read_in w key) r m (few key) is))
        (keeps.since t key r m late until may);
    past_whole = keeps.past_whole;
    since_whole = λ ordered t c m late until may. ⊎_elim
        (λ was. inl (old_whole_weaker f.forgets forgets (old.whole from) c m few was))
        (λ is. inr (new_whole_weaker f.forgets forgets moment w c m few is))
        (keeps.since_whole ordered t c m late until may);
  }

  pub acts_ruled : {T : Type 0} (old new : StoreState) (a b : HostState) (moment : ℕ) (w : Content) (result : Result T StoreFault) → Acts f g old new a b moment w result → Acts before after old new a b moment w result
  acts_ruled old new a b moment w result acts = record {
    stands = acts.stands;
    others = acts.others;
    silent = acts.silent;
    keeps = keeps_ruled a.turn b.turn moment old new w acts.keeps;
    opens = acts.opens;
    sound = acts.sound;
    undamaged = acts.undamaged;
    spent = acts.spent;
    refused = λ err unspoilt key. alike_weaker (f.forgets key) (forgets key) moment (read_in new.content key) (read_in old.content key) (few key) (acts.refused err unspoilt key);
    room = acts.room;
  }

  pub plain_ruled : {T : Type 0} (moment : ℕ) (result : Result T StoreFault) → (g.usable → v) → Plainly f g moment result → Plainly before after moment result
  plain_ruled moment result usable plain = record {
    same = record {
      bits = plain.same.bits;
      owns = plain.same.owns;
      ordered = plain.same.ordered;
      firm = plain.same.firm;
      forgets = λ key. (λ x. x, λ x. x);
      moves = plain.same.moves;
      empties = plain.same.empties;
      room = plain.same.room;
      steps = plain.same.steps;
      compacts = plain.same.compacts;
      turns = plain.same.turns;
      compacts_all = plain.same.compacts_all;
      turns_all = plain.same.turns_all;
      sweeps = plain.same.sweeps;
      counts = plain.same.counts;
    };
    usable = λ unspoilt. usable (plain.usable unspoilt);
    unspoilt = plain.unspoilt;
    spoilt = plain.spoilt;
    late = plain.late;
    sequence = plain.sequence;
    files = plain.files;
  }

  pub draws_ruled : DrawsNone f g → DrawsNone before after
  draws_ruled draws = record { drawn = draws.drawn; made = draws.made; numbers = draws.numbers }

  pub draws_one_ruled : {T : Type 0} (result : Result T StoreFault) → DrawsOne f g result → DrawsOne before after result
  draws_one_ruled result draws = record { drawn = draws.drawn; made = draws.made; numbers = draws.numbers; refused = λ err unspoilt. draws_ruled (draws.refused err unspoilt) }

  pub draws_by_ruled : (kind : StepKind) (result : Result Turned StoreFault) → DrawsBy kind f g result → DrawsBy kind before after result
  draws_by_ruled Compact result draws = record { drawn = draws.drawn; made = draws.made; numbers = draws.numbers; idle = draws.idle; refused = λ err unspoilt. draws_ruled (draws.refused err unspoilt) }
  draws_by_ruled Index result draws = draws_ruled draws
  draws_by_ruled Flush result draws = draws_ruled draws
  draws_by_ruled Evict result draws = draws_ruled draws
  draws_by_ruled Reap result draws = draws_ruled draws
  draws_by_ruled Rotate result draws = draws_ruled draws

  pub only_ruled : (state : StoreState) (turn : ℕ) (key : List ℕ) → IsOnly g state turn key → IsOnly after state turn key
  only_ruled state turn key only r m may = alike_weaker (g.forgets key) (forgets key) m r (read_in state.content key) (few_after key) (only r m may)

  pub settled_ruled : (state : StoreState) (turn : ℕ) → IsSettled g state turn → IsSettled after state turn
  settled_ruled state turn settled = record {
    each = λ key. only_ruled state turn key (settled.each key);
    whole = λ c m may key. alike_weaker (g.forgets key) (forgets key) m (read_in c key) (read_in state.content key) (few_after key) (settled.whole c m may key);
  }

  pub walked_ruled : (from : Option (List ℕ)) (old new : StoreState) (a b : HostState) (moment : ℕ) (result : Result (Option (List ℕ)) StoreFault) → Walked from f g old new a b moment result → Walked from before after old new a b moment result
  walked_ruled from old new a b moment result walked = record {
    acts = acts_ruled old new a b moment old.content result walked.acts;
    content = walked.content;
    next = walked.next;
    parts = walked.parts;
  }

  pub written_ruled : (change : Change) (old new : StoreState) (a b : HostState) (moment : ℕ) (result : Result (Unit {0}) StoreFault) → Written change f g old new a b moment result → Written change before after old new a b moment result
  written_ruled change old new a b moment result written = record {
    acts = acts_ruled old new a b moment (changed change old.content) result written.acts;
    content = written.content;
    unchanged = written.unchanged;
    kept = λ err unspoilt. keeps_ruled a.turn b.turn moment old new old.content (written.kept err unspoilt);
    quiet = written.quiet;
    firm = firm result written.firm;
    parts = written.parts;
  }
    where
      firm : (given : Result (Unit {0}) StoreFault) → (f.firm ≡ true → OnOk given (IsOnly g new b.turn (key_of change))) → f.firm ≡ true → OnOk given (IsOnly after new b.turn (key_of change))
      firm (Ok x) only is = only_ruled new b.turn (key_of change) (only is)
      firm (Err e) only is = tt

  pub synced_ruled : (old new : StoreState) (a b : HostState) (moment : ℕ) (result : Result (Unit {0}) StoreFault) → SyncedStore f g old new a b moment result → SyncedStore before after old new a b moment result
  synced_ruled old new a b moment result synced = record {
    acts = acts_ruled old new a b moment old.content result synced.acts;
    content = synced.content;
    unchanged = synced.unchanged;
    settled = settled result synced.settled;
    parts = synced.parts;
    flushed = synced.flushed;
  }
    where
      settled : (given : Result (Unit {0}) StoreFault) → OnOk given (IsSettled g new b.turn) → OnOk given (IsSettled after new b.turn)
      settled (Ok x) is = settled_ruled new b.turn is
      settled (Err e) is = tt

  pub stepped_ruled : (kind : StepKind) (old new : StoreState) (a b : HostState) (moment : ℕ) (result : Result Turned StoreFault) → Stepped kind f g old new a b moment result → Stepped kind before after old new a b moment result
  stepped_ruled kind old new a b moment result stepped = record {
    acts = acts_ruled old new a b moment old.content result stepped.acts;
    content = kept result stepped.content;
    marks = marked result stepped.marks;
    parts = stepped.parts;
  }
    where
      kept : (given : Result Turned StoreFault) → OnOk given (IsKept f moment old.content new.content) → OnOk given (IsKept before moment old.content new.content)
      kept (Ok x) is = λ key. alike_weaker (f.forgets key) (forgets key) moment (read_in new.content key) (read_in old.content key) (few key) (is key)
      kept (Err e) is = tt

      marked : (given : Result Turned StoreFault) → OnOk given (IsKeptAtMarks f b.turn old new) → OnOk given (IsKeptAtMarks before b.turn old new)
      marked (Ok x) is = λ key r m may. alike_weaker (f.forgets key) (forgets key) m (read_in new.content key) (read_in old.content key) (few key) (is key r m may)
      marked (Err e) is = tt

  pub figured_ruled : (old new : StoreState) (a b : HostState) (moment : ℕ) (result : Result (ℕ × ℕ × ℕ) StoreFault) → Figured f g old new a b moment result → Figured before after old new a b moment result
  figured_ruled old new a b moment result figured = record {
    acts = acts_ruled old new a b moment old.content result figured.acts;
    content = kept result figured.content;
    marks = marked result figured.marks;
    parts = figured.parts;
  }
    where
      kept : (given : Result (ℕ × ℕ × ℕ) StoreFault) → OnOk given (IsKept f moment old.content new.content) → OnOk given (IsKept before moment old.content new.content)
      kept (Ok x) is = λ key. alike_weaker (f.forgets key) (forgets key) moment (read_in new.content key) (read_in old.content key) (few key) (is key)
      kept (Err e) is = tt

      marked : (given : Result (ℕ × ℕ × ℕ) StoreFault) → OnOk given (IsKeptAtMarks f b.turn old new) → OnOk given (IsKeptAtMarks before b.turn old new)
      marked (Ok x) is = λ key r m may. alike_weaker (f.forgets key) (forgets key) m (read_in new.content key) (read_in old.content key) (few key) (is key r m may)
      marked (Err e) is = tt

  pub compacted_ruled : (file : ℕ) (old new : StoreState) (a b : HostState) (moment : ℕ) (result : Result Turned StoreFault) → CompactedFile file f g old new a b moment result → CompactedFile file before after old new a b moment result
  compacted_ruled file old new a b moment result compacted = record {
    acts = acts_ruled old new a b moment old.content result compacted.acts;
    content = kept result compacted.content;
    marks = marked result compacted.marks;
    made = compacted.made;
    parts = compacted.parts;
  }
    where
      kept : (given : Result Turned StoreFault) → OnOk given (IsKept f moment old.content new.content) → OnOk given (IsKept before moment old.content new.content)
      kept (Ok x) is = λ key. alike_weaker (f.forgets key) (forgets key) moment (read_in new.content key) (read_in old.content key) (few key) (is key)
      kept (Err e) is = tt

      marked : (given : Result Turned StoreFault) → OnOk given (IsKeptAtMarks f b.turn old new) → OnOk given (IsKeptAtMarks before b.turn old new)
      marked (Ok x) is = λ key r m may. alike_weaker (f.forgets key) (forgets key) m (read_in new.content key) (read_in old.content key) (few key) (is key r m may)
      marked (Err e) is = tt

  pub compacted_all_ruled : (old new : StoreState) (a b : HostState) (moment : ℕ) (result : Result (Unit {0}) StoreFault) → CompactedAll f g old new a b moment result → CompactedAll before after old new a b moment result
  compacted_all_ruled old new a b moment result compacted = record {
    acts = acts_ruled old new a b moment old.content result compacted.acts;
    content = kept result compacted.content;
    marks = marked result compacted.marks;
    made = compacted.made;
    parts = compacted.parts;
    swept = compacted.swept;
  }
    where
      kept : (given : Result (Unit {0}) StoreFault) → OnOk given (IsKept f moment old.content new.content) → OnOk given (IsKept before moment old.content new.content)
      kept (Ok x) is = λ key. alike_weaker (f.forgets key) (forgets key) moment (read_in new.content key) (read_in old.content key) (few key) (is key)
      kept (Err e) is = tt

      marked : (given : Result (Unit {0}) StoreFault) → OnOk given (IsKeptAtMarks f b.turn old new) → OnOk given (IsKeptAtMarks before b.turn old new)
      marked (Ok x) is = λ key r m may. alike_weaker (f.forgets key) (forgets key) m (read_in new.content key) (read_in old.content key) (few key) (is key r m may)
      marked (Err e) is = tt

-- the same of another answer
pub acts_answered : (f g : StoreFacts) (old new : StoreState) (a b : HostState) (moment : ℕ) (w : Content) (one other : Answer) → Acts f g old new a b moment w (Ok one) → Acts f g old new a b moment w (Ok other)
acts_answered f g old new a b moment w one other acts = record {
  stands = acts.stands;
  others = acts.others;
  silent = acts.silent;
  keeps = acts.keeps;
  opens = acts.opens;
  sound = acts.sound;
  undamaged = λ is d err. cc;
  spent = λ s err. cc;
  refused = λ err. cc;
  room = λ err. cc;
}

module _ {F : Type 0} (g : Shared F (Bor (List ℕ) × Unit {0}) Bool) (rule : F) where
  -- what is answered by the rule is right of the reading
  pub answer_ruled : (key : List ℕ) (moment : ℕ) (reading : Reading) (answer given : Answer) → IsRuled g rule key answer given → IsAnswer ⊥ moment reading answer → IsAnswer (Allows g rule key) moment reading given
  answer_ruled key moment reading (Known entry) given is answer = subst (λ (a : Answer). IsAnswer (Allows g rule key) moment reading a) (sym is) answer
  answer_ruled key moment reading Unknown given is answer = subst (λ (a : Answer). IsAnswer (Allows g rule key) moment reading a) (sym is) (answer.0, ⊎_elim (λ none. inl none) (λ never. absurd never) answer.1)
  answer_ruled key moment reading Gone Gone is answer = answer
  answer_ruled key moment reading Gone Unknown is answer = (answer.0, inr is)
  answer_ruled key moment reading Gone (Known entry) is answer = absurd is

  -- what is answered Gone is kept
  pub gone_kept : (key : List ℕ) (answer given : Answer) → IsRuled g rule key answer given → given ≡ Gone → Kept g rule key
  gone_kept key (Known entry) given is gone = cc
  gone_kept key Unknown given is gone = cc
  gone_kept key Gone Gone is gone = is
  gone_kept key Gone Unknown is gone = cc
  gone_kept key Gone (Known entry) is gone = absurd is

  -- what is answered has no more bytes
  pub bytes_ruled : (key : List ℕ) (answer given : Answer) → IsRuled g rule key answer given → known_bytes key given ≤ known_bytes key answer
  bytes_ruled key (Known entry) given is = omega (arith, ap (known_bytes key) is)
  bytes_ruled key Unknown given is = omega (arith, ap (known_bytes key) is)
  bytes_ruled key Gone Gone is = omega arith
  bytes_ruled key Gone Unknown is = omega arith
  bytes_ruled key Gone (Known entry) is = absurd is
