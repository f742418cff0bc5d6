-- A host with one more turn, or with none, seen as its state.
use Rattle.std.proofs.Common.{◌≡◌, ◌∙◌, sym, ap, subst, refl, ℕ, zero, suc, ◌+◌, ◌<◌, ◌≤◌, Bool, true, false, List, [], ◌∷◌, ◌++◌, length, take, Option, Some, Result, Ok, Err, OnOk, IsErrOf, if◌then◌else◌, arith, length-append, rules}
use Rattle.std.proofs.Math.Seq.{take-length}
use Rattle.std.proofs.lemmas.List.{take-append-le}
use Rattle.cache_model.specs.Files.{Image}
use Rattle.cache_disk.specs.State.{GoesOn, Moves, Stands, Asks}
use Rattle.cache_disk.specs.Calls.{TakesTurn}
use Rattle.cache_disk.specs.declared.host.HostFault.{HostFault}
use Rattle.cache_disk.specs.declared.host.HostFault.TheVariants.{Failed, Memory}
use Rattle.host_memory.specs.declared.turns.Turn.{Turn}
use Rattle.host_memory.specs.ReadsNow.{same_files}
use Rattle.host_memory.specs.Turns.{after, Steps, replayed, Leads, MayBeLeft, said_after, said_since, words_of, words_since, out_of, out_since, asked_by}
use Rattle.host_memory.specs.History.{History, memory_state}

-- one turn more
take_more : (turns : List Turn) (turn : Turn) (t : ℕ) → length turns < t → t ≤ length (turns ++ turn ∷ []) → take t (turns ++ turn ∷ []) ≡ turns ++ turn ∷ []
take_more turns turn t above below =
    let e : t ≡ length (turns ++ turn ∷ []) = omega (arith, length-append turns (turn ∷ [])) in
    ap (λ n. take n (turns ++ turn ∷ [])) e ∙ take-length (turns ++ turn ∷ [])

-- a fold over the turns goes on by its step
goes_on : {A : Type 0} (f : List Turn → A) (turns : List Turn) (turn : Turn) (now : A) → f (turns ++ turn ∷ []) ≡ now → GoesOn (length turns) (length (turns ++ turn ∷ [])) (λ t. f (take t turns)) (λ t. f (take t (turns ++ turn ∷ []))) now
goes_on f turns turn now step = record {
  stays = λ t le. ap f (take-append-le t turns (turn ∷ []) le);
  since = λ t above below. ap f (take_more turns turn t above below) ∙ step;
}

pub said_more : (said : Option (List ℕ)) (turns : List Turn) (turn : Turn) → said_since said (turns ++ turn ∷ []) ≡ said_after (said_since said turns) turn.call
said_more said [] turn = refl
said_more said (first ∷ turns) turn = said_more (said_after said first.call) turns turn

pub words_more : (words : List ℕ) (turns : List Turn) (turn : Turn) → words_since words (turns ++ turn ∷ []) ≡ words_since words turns ++ words_of turn.call
words_more words [] turn = refl
words_more words (first ∷ turns) turn = words_more (words ++ words_of first.call) turns turn

out_more : (out : ℕ) (turns : List Turn) (turn : Turn) → out_since out (turns ++ turn ∷ []) ≡ out_since out turns + out_of turn.call
out_more out [] turn = refl
out_more out (first ∷ turns) turn = out_more (out + out_of first.call) turns turn

pub replayed_more : (files : Image) (turns : List Turn) (turn : Turn) → replayed files (turns ++ turn ∷ []) ≡ after turn.call (replayed files turns)
replayed_more files [] turn = refl
replayed_more files (first ∷ turns) turn = replayed_more (after first.call files) turns turn

-- what was asked before a turn stays, and what is asked now counts for the present one
asked_past : (turns : List Turn) (m n t : ℕ) → t < length turns → asked_by turns m t ≡ asked_by turns n t
asked_past [] m n t h = absurd (omega arith)
asked_past (turn ∷ turns) m n zero h = refl
asked_past (turn ∷ turns) m n (suc t) h = asked_past turns m n t (omega arith)

asked_now : (turns : List Turn) (n t : ℕ) → length turns ≤ t → asked_by turns n t ≡ n
asked_now [] n t h = refl
asked_now (turn ∷ turns) n zero h = absurd (omega arith)
asked_now (turn ∷ turns) n (suc t) h = asked_now turns n t (omega arith)

asked_until : (turns : List Turn) (turn : Turn) (n : ℕ) → turn.asked ≡ n → (t : ℕ) → t ≤ length turns → asked_by (turns ++ turn ∷ []) n t ≡ asked_by turns n t
asked_until [] turn n noted zero le = noted
asked_until [] turn n noted (suc t) le = absurd (omega arith)
asked_until (first ∷ turns) turn n noted zero le = refl
asked_until (first ∷ turns) turn n noted (suc t) le = asked_until turns turn n noted t (omega arith)

asked_more : (turns : List Turn) (turn : Turn) (n : ℕ) → turn.asked ≡ n → GoesOn (length turns) (length (turns ++ turn ∷ [])) (λ t. asked_by turns n t) (λ t. asked_by (turns ++ turn ∷ []) n t) (asked_by turns n (length turns))
asked_more turns turn n noted = record {
  stays = asked_until turns turn n noted;
  since = λ t above below. asked_now (turns ++ turn ∷ []) n t (omega (arith, length-append turns (turn ∷ []))) ∙ sym (asked_now turns n (length turns) (omega arith));
}

-- the last turn is a step
leads_back : (files : Image) (turns : List Turn) (turn : Turn) (from to : Image) → Leads files (turns ++ turn ∷ []) from to → (d : Image) × Leads files turns from d × Steps (replayed files turns) turn.call d to
leads_back files [] turn from to (next, step, is) = let P : Image → Type 0 = λ image. Steps files turn.call from image in (from, refl, subst P (sym is) step)
leads_back files (first ∷ turns) turn from to (next, step, leads) =
    let back = leads_back (after first.call files) turns turn next to leads in
    (back.0, (next, step, back.1), back.2)

pub left_back : (files : Image) (turns : List Turn) (turn : Turn) (to : Image) → MayBeLeft files (turns ++ turn ∷ []) to → (d : Image) × MayBeLeft files turns d × Steps (replayed files turns) turn.call d to
left_back files turns turn to (first, same, leads) = let back = leads_back files turns turn first to leads in (back.0, (first, same, back.1), back.2)

-- The second host is the first with one turn more.
pub record Took (old new : History) (turn : Turn) : Type 0 where
  pub initial : new.initial ≡ old.initial
  pub turns : new.turns ≡ old.turns ++ turn ∷ []
  pub asked : new.asked ≡ old.asked
  pub noted : turn.asked ≡ old.asked
  pub short_reads : new.short_reads ≡ old.short_reads

-- the second host with its parts taken from the first
abbrev taken : History → Image → List Turn → ℕ → ℕ → History
taken new initial turns asked short_reads = record new { initial = initial; turns = turns; asked = asked; short_reads = short_reads }

took_is : (old new : History) (turn : Turn) → Took old new turn → new ≡ taken new old.initial (old.turns ++ turn ∷ []) old.asked old.short_reads
took_is old new turn took =
    ap (λ initial. taken new initial new.turns new.asked new.short_reads) took.initial
    ∙ ap (λ turns. taken new old.initial turns new.asked new.short_reads) took.turns
    ∙ ap (λ asked. taken new old.initial (old.turns ++ turn ∷ []) asked new.short_reads) took.asked
    ∙ ap (λ short. taken new old.initial (old.turns ++ turn ∷ []) old.asked short) took.short_reads

-- the images after one turn more
moves : (old : History) (turn : Turn) (new : History) → Moves (memory_state old) (memory_state (taken new old.initial (old.turns ++ turn ∷ []) old.asked old.short_reads)) (Steps (replayed old.initial old.turns) turn.call)
moves old turn new = record {
  later = omega (arith, length-append old.turns (turn ∷ []));
  past = λ t c le left. let P : List Turn → Type 0 = λ turns. MayBeLeft old.initial turns c in subst P (take-append-le t old.turns (turn ∷ []) le) left;
  kept = λ t c le left. let P : List Turn → Type 0 = λ turns. MayBeLeft old.initial turns c in subst P (sym (take-append-le t old.turns (turn ∷ []) le)) left;
  now = λ t c above below left.
      let P : List Turn → Type 0 = λ turns. MayBeLeft old.initial turns c in
      let back = left_back old.initial old.turns turn c (subst P (take_more old.turns turn t above below) left) in
      let Q : Image → List Turn → Type 0 = λ d turns. MayBeLeft old.initial turns d in
      (back.0, subst (Q back.0) (sym (take-length old.turns)) back.1, back.2);
}

-- what a call answers that succeeds or not
abbrev pub Answers : Bool → Result (Unit {0}) HostFault → Type 0
Answers ok result = result ≡ (if ok then Ok tt else Err Failed)

never_memory : (ok : Bool) (result : Result (Unit {0}) HostFault) → Answers ok result → IsErrOf result Memory → ⊥
never_memory true result answers memory = cc
never_memory false result answers memory = cc

on_ok : (result : Result (Unit {0}) HostFault) {P : Type 0} → P → OnOk result P
on_ok (Ok x) p = p
on_ok (Err e) p = search rules

took_turn : (old : History) (turn : Turn) (new : History) (ok : Bool) (result : Result (Unit {0}) HostFault) → turn.asked ≡ old.asked → Answers ok result
    → TakesTurn (memory_state old) (memory_state (taken new old.initial (old.turns ++ turn ∷ []) old.asked old.short_reads)) (Steps (replayed old.initial old.turns) turn.call) (out_of turn.call) (said_after ((memory_state old).said (memory_state old).turn) turn.call) result
took_turn old turn new ok result noted answers =
    let longer : length old.turns < length (old.turns ++ turn ∷ []) = omega (arith, length-append old.turns (turn ∷ [])) in
    record {
      ok = on_ok result longer;
      failed = λ _. longer;
      memory = λ memory. absurd (never_memory ok result answers memory);
      images = moves old turn new;
      said = goes_on (said_since (Some [])) old.turns turn _ (said_more (Some []) old.turns turn ∙ ap (λ turns. said_after (said_since (Some []) turns) turn.call) (sym (take-length old.turns)));
      put_out = goes_on (out_since 0) old.turns turn _ (out_more 0 old.turns turn ∙ ap (λ turns. out_since 0 turns + out_of turn.call) (sym (take-length old.turns)));
      asked = asked_more old.turns turn old.asked noted;
      short_reads = refl;
    }

-- a call that took a turn
pub takes_turn : (old new : History) (turn : Turn) (ok : Bool) (result : Result (Unit {0}) HostFault) → Took old new turn → Answers ok result
    → TakesTurn (memory_state old) (memory_state new) (Steps (replayed old.initial old.turns) turn.call) (out_of turn.call) (said_after ((memory_state old).said (memory_state old).turn) turn.call) result
takes_turn old new turn ok result took answers =
    let P : History → Type 0 = λ host. TakesTurn (memory_state old) (memory_state host) (Steps (replayed old.initial old.turns) turn.call) (out_of turn.call) (said_after ((memory_state old).said (memory_state old).turn) turn.call) result in
    subst P (sym (took_is old new turn took)) (took_turn old turn new ok result took.noted answers)

-- the files after it
pub files_then : (old new : History) (turn : Turn) → Took old new turn → (memory_state new).files ≡ after turn.call (replayed old.initial old.turns)
files_then old new turn took = ap (λ files. replayed files new.turns) took.initial ∙ ap (λ turns. replayed old.initial turns) took.turns ∙ replayed_more old.initial old.turns turn

-- The second host is the first but for its counts of calls, of faults and of short reads, and what was asked for.
pub record Stood (old new : History) : Type 0 where
  pub initial : new.initial ≡ old.initial
  pub turns : new.turns ≡ old.turns

pub stands : (old new : History) → Stood old new → Stands (memory_state old) (memory_state new)
stands old new stood =
    let is : new ≡ record new { initial = old.initial; turns = old.turns } =
    ap (λ initial. taken new initial new.turns new.asked new.short_reads) stood.initial ∙ ap (λ turns. taken new old.initial turns new.asked new.short_reads) stood.turns in
    let P : History → Type 0 = λ host. Stands (memory_state old) (memory_state host) in
    subst P (sym is) (record {
      turn = refl;
      files = same_files (replayed old.initial old.turns);
      past = λ t c le left. left;
      kept = λ t c le left. left;
      said = λ t le. refl;
      put_out = λ t le. refl;
    })

pub asks : (old new : History) (count : ℕ) → Stood old new → new.asked ≡ old.asked + count → Asks (memory_state old) (memory_state new) count
asks old new count stood more =
    let is : new ≡ taken new old.initial old.turns (old.asked + count) new.short_reads =
    ap (λ initial. taken new initial new.turns new.asked new.short_reads) stood.initial
    ∙ ap (λ turns. taken new old.initial turns new.asked new.short_reads) stood.turns
    ∙ ap (λ asked. taken new old.initial old.turns asked new.short_reads) more in
    let P : History → Type 0 = λ host. Asks (memory_state old) (memory_state host) count in
    subst P (sym is) (record {
      past = λ t below. asked_past old.turns (old.asked + count) old.asked t below;
      now = asked_now old.turns (old.asked + count) (length old.turns) (omega arith) ∙ ap (λ n. n + count) (sym (asked_now old.turns old.asked (length old.turns) (omega arith)));
    })
