-- What the words of a line say.
use Rattle.std.proofs.Common.{◌≡◌, ℕ, ◌≤◌, ◌^◌, List, [], ◌∷◌, drop, Option, Some, None, Result, Ok, Err, IsTrue, refl, sym, ◌∙◌, ap, arith, inl, inr}
use Rattle.std.specs.Prelude.{option_map, IfErr}
use Rattle.std.specs.List.{slice_get}
use Rattle.std.specs.Option.{option_or}
use Rattle.std.proofs.lemmas.Bool.{cases_lt, le-ltb, cond-false}
use Rattle.cache_model.specs.declared.entries.Lifespan.{Lifespan}
use Rattle.cache_model.specs.declared.entries.Lifespan.TheVariants.{Endless, Of}
use Rattle.cache_model.specs.declared.commands.Command.{Command}
use Rattle.cache_model.specs.declared.commands.Command.TheVariants.{At, Put, PutAbsent, Replace, ReplaceIf, Get, Has, Remove, RemoveIf, Size, Keys, Clear, Step, Evict, Sync, CompactAll, CompactFile, Stats, Export, Stop, Halt}
use Rattle.cache_model.specs.Lines.{LineMeaning, asks, refuses, unless_refused, within_limits, limit_refusal, key_refusal, value_refusal, ttl_refusal, ttl_of, takes_entry, takes_exchange, words_of, words_command, row_command, command_rows, content_meaning}
use Rattle.cache_model.specs.Plain.{Plain, capped}
use Rattle.cache_model.specs.Replies.{Refusal, refused, ttl}
use Rattle.cache_model.specs.Transcript.{Answers, may_be_refused}
use Rattle.cache_script.specs.declared.faults.LineFault.{LineFault}
use Rattle.cache_script.specs.Reading.{names_key, Reads}
use Rattle.cache_script.specs.Refusals.{refusal_of}
use Rattle.cache_script.specs.declared.rows.PutKind.{PutKind}
use Rattle.cache_script.specs.declared.rows.PutKind.TheVariants as kind
use Rattle.cache_script.specs.Rows.{put_command}
use Rattle.cache_script.specs.Spans.{capped_span}
use Rattle.cache_script.specs.Tokens.{first_token}

-- the meaning of a line, by its words
pub content_meaning-words : (line : List ℕ) → content_meaning line ≡ within_limits (words_command (words_of line))
unfolding content_meaning
content_meaning-words line = refl

-- words with a first one
pub words_command-named : (words : List (List ℕ)) (name : List ℕ) → Some name ≡ slice_get words 0 → words_command words ≡ row_command command_rows name (drop 1 words)
words_command-named [] name first = absurd (cc)
words_command-named (word ∷ words) name first = let same : word ≡ name = cc in ap (λ (n : List ℕ). row_command command_rows n words) same

-- no words
pub words_command-none : (words : List (List ℕ)) → None ≡ slice_get words 0 → words_command words ≡ None
words_command-none [] first = refl
words_command-none (word ∷ words) first = absurd (cc)

-- what was mapped is there
mapped : {A B : Type 0} (f : A → B) (o : Option A) (y : B) → Some y ≡ option_map f o → (x : A) × (o ≡ Some x) × (f x ≡ y)
mapped f None y is = absurd (cc)
mapped f (Some x) y is = (x, refl, cc)

-- a refusal doesn't depend on the command
refused-same : (one other : Command) (before : Option Refusal) → unless_refused one (option_or before (Some ttl)) ≡ unless_refused other (option_or before (Some ttl))
refused-same one other None = refl
refused-same one other (Some refusal) = refl

-- a lifespan that is too long stays so where it is cut
ttl_refusal-long : (n : ℕ) → 2 ^ 61 ≤ n → ttl_refusal (Of n) ≡ Some ttl
ttl_refusal-long n long = cond-false _ None (Some ttl) (le-ltb n (2 ^ 61) long)

-- a command means the same with its lifespan cut
same_span : (make : Lifespan → Command) (before : Option Refusal) → ((lifespan : Lifespan) → limit_refusal (make lifespan) ≡ option_or before (ttl_refusal lifespan)) → (span : Lifespan) → within_limits (Some (make span)) ≡ within_limits (Some (make (capped_span span)))
same_span make before limits Endless = refl
same_span make before limits (Of n) =
    elim (cases_lt n (2 ^ 61)) [
      | inl short ↦ let same : n ≡ capped n = omega (arith, short) in ap (λ (m : ℕ). within_limits (Some (make (Of m)))) same
      | inr long ↦
          let cut : 2 ^ 61 ≤ capped n = omega (arith, long) in
          ap (unless_refused (make (Of n))) (limits (Of n) ∙ ap (option_or before) (ttl_refusal-long n long))
          ∙ refused-same (make (Of n)) (make (Of (capped n))) before
          ∙ sym (ap (unless_refused (make (Of (capped n)))) (limits (Of (capped n)) ∙ ap (option_or before) (ttl_refusal-long (capped n) cut)))
    ]

option_or-assoc : {A : Type 0} (one two three : Option A) → option_or one (option_or two three) ≡ option_or (option_or one two) three
option_or-assoc None two three = refl
option_or-assoc (Some x) two three = refl

put-limits : (kind : PutKind) (key value : List ℕ) (lifespan : Lifespan) → limit_refusal (put_command kind key value lifespan) ≡ option_or (option_or (key_refusal key) (value_refusal value)) (ttl_refusal lifespan)
put-limits kind.Put key value lifespan = option_or-assoc (key_refusal key) (value_refusal value) (ttl_refusal lifespan)
put-limits kind.PutAbsent key value lifespan = option_or-assoc (key_refusal key) (value_refusal value) (ttl_refusal lifespan)
put-limits kind.Replace key value lifespan = option_or-assoc (key_refusal key) (value_refusal value) (ttl_refusal lifespan)

exchange-limits : (key old value : List ℕ) (lifespan : Lifespan) → limit_refusal (ReplaceIf key old value lifespan) ≡ option_or (option_or (key_refusal key) (option_or (value_refusal old) (value_refusal value))) (ttl_refusal lifespan)
exchange-limits key old value lifespan =
    ap (option_or (key_refusal key)) (option_or-assoc (value_refusal old) (value_refusal value) (ttl_refusal lifespan))
    ∙ option_or-assoc (key_refusal key) (option_or (value_refusal old) (value_refusal value)) (ttl_refusal lifespan)

-- the command of a key, a value and what lifespan it has
entry-is : (make : List ℕ → List ℕ → Lifespan → Command) (words : List (List ℕ)) (key value : List ℕ) (span : Lifespan) → Some key ≡ first_token words → Some value ≡ first_token (drop 1 words) → ttl_of (drop 1 (drop 1 words)) ≡ Some span → takes_entry make words ≡ Some (make key value span)
entry-is make [] key value span one two three = absurd (cc)
entry-is make (k ∷ []) key value span one two three = absurd (cc)
entry-is make (k ∷ v ∷ words) key value span one two three = rw (sym one, sym two, three) refl

-- the meaning of a put, with its lifespan cut
pub put-read : (kind : PutKind) (words : List (List ℕ)) (key value : List ℕ) (lifespan : Lifespan) → Some key ≡ first_token words → Some value ≡ first_token (drop 1 words) → Some lifespan ≡ option_map capped_span (ttl_of (drop 1 (drop 1 words))) → within_limits (takes_entry (put_command kind) words) ≡ within_limits (Some (put_command kind key value lifespan))
put-read kind words key value lifespan one two three =
    let span = mapped capped_span (ttl_of (drop 1 (drop 1 words))) lifespan three in
    ap within_limits (entry-is (put_command kind) words key value span.0 one two span.1)
    ∙ same_span (put_command kind key value) (option_or (key_refusal key) (value_refusal value)) (put-limits kind key value) span.0
    ∙ ap (λ (l : Lifespan). within_limits (Some (put_command kind key value l))) span.2

exchange-is : (words : List (List ℕ)) (key old value : List ℕ) (span : Lifespan) → Some key ≡ first_token words → Some old ≡ first_token (drop 1 words) → Some value ≡ first_token (drop 1 (drop 1 words)) → ttl_of (drop 1 (drop 1 (drop 1 words))) ≡ Some span → takes_exchange ReplaceIf words ≡ Some (ReplaceIf key old value span)
exchange-is [] key old value span one two three four = absurd (cc)
exchange-is (k ∷ words) key old value span one two three four = rw (sym one) (entry-is (ReplaceIf key) words old value span two three four)

-- the meaning of an exchange, with its lifespan cut
pub exchange-read : (words : List (List ℕ)) (key old value : List ℕ) (lifespan : Lifespan) → Some key ≡ first_token words → Some old ≡ first_token (drop 1 words) → Some value ≡ first_token (drop 1 (drop 1 words)) → Some lifespan ≡ option_map capped_span (ttl_of (drop 1 (drop 1 (drop 1 words)))) → within_limits (takes_exchange ReplaceIf words) ≡ within_limits (Some (ReplaceIf key old value lifespan))
exchange-read words key old value lifespan one two three four =
    let span = mapped capped_span (ttl_of (drop 1 (drop 1 (drop 1 words)))) lifespan four in
    ap within_limits (exchange-is words key old value span.0 one two three span.1)
    ∙ same_span (ReplaceIf key old value) (option_or (key_refusal key) (option_or (value_refusal old) (value_refusal value))) (exchange-limits key old value) span.0
    ∙ ap (λ (l : Lifespan). within_limits (Some (ReplaceIf key old value l))) span.2

-- a command that names a key may be refused for want of memory
names_key-refused : (command : Command) → IsTrue (names_key command) → IsTrue (may_be_refused command)
names_key-refused (At moment) is = refl
names_key-refused (Put key value lifespan) is = is
names_key-refused (PutAbsent key value lifespan) is = is
names_key-refused (Replace key value lifespan) is = is
names_key-refused (ReplaceIf key old value lifespan) is = is
names_key-refused (Get key) is = is
names_key-refused (Has key) is = is
names_key-refused (Remove key) is = is
names_key-refused (RemoveIf key old) is = is
names_key-refused Size is = is
names_key-refused Keys is = is
names_key-refused Clear is = is
names_key-refused (Step kind) is = refl
names_key-refused (Evict key) is = is
names_key-refused Sync is = is
names_key-refused CompactAll is = is
names_key-refused (CompactFile number) is = refl
names_key-refused Stats is = is
names_key-refused Export is = is
names_key-refused Stop is = is
names_key-refused Halt is = refl

-- a fault is an answer to its line
pub fault-answers : (meaning : LineMeaning) (result : Result Command LineFault) → Reads meaning result → IfErr result (λ fault. (publish : List ℕ) (plain : Plain) → Answers publish plain meaning (refused (refusal_of fault)))
fault-answers meaning (Ok command) reads = tt
fault-answers (refuses refusal) (Err fault) reads = λ publish plain. ap refused reads
fault-answers (asks command) (Err fault) (inl done) = absurd (cc)
fault-answers (asks command) (Err fault) (inr wanted) =
    λ publish plain. let same : fault ≡ Rattle.cache_script.specs.declared.faults.LineFault.TheVariants.Memory = cc in inr (ap (λ f. refused (refusal_of f)) same, names_key-refused command wanted.1)
