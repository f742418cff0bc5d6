-- A line that is being taken from some input.
use Rattle.std.proofs.Common.{◌≡◌, ℕ, zero, suc, ◌+◌, ◌-◌, ◌≤◌, ◌<◌, ◌^◌, Bool, true, false, List, [], ◌∷◌, ◌++◌, length, take, drop, refl, sym, ◌∙◌, ap, subst, arith, length-drop, length-append, take-append-drop}
use Rattle.std.specs.Prelude.{◌||◌, ◌==◌}
use Rattle.std.proofs.lemmas.List.{length-take-le, drop-drop, take_all, drop_all, take-append-le, drop-append-le}
use Rattle.std.proofs.lemmas.List.Folds.{list_any-append}
use Rattle.std.proofs.Common.{inl, inr}
use Rattle.std.proofs.lemmas.Bool.{cases_lt}
use Rattle.cache_model.specs.Lines.{Lacks, lines_of, units_of_length, content_of}
use Rattle.cache_script.proofs.ContentLemmas.{length-content, has-content, is-long}
use Rattle.cache_model.proofs.Cut.{cut_at-found, cut_at-last}
use Rattle.cache_script.specs.declared.line_reader.LineReader.{LineReader}
use Rattle.cache_script.specs.declared.line_reader.Taken.{Taken}
use Rattle.cache_script.specs.declared.line_reader.Taken.TheVariants.{Line, Long, End, Spent}
use Rattle.cache_script.specs.LineReader.{pending, unread, TakesPiece, TakesLine, CountsLine, EndsLine, EndsInput, Takes, Exhausts, IsSpent, HasUnits}

-- So many bytes of the input's first line were taken: the input was these bytes and what is unread.
pub record IsTaking (input : List ℕ) (reader : LineReader) (rest : List ℕ) : Type 0 where
  pub within : reader.taken ≤ length input
  pub lacks : Lacks 10 (take reader.taken input)
  pub left : drop reader.taken input ≡ unread reader rest
  pub line : reader.taken ≤ 1048577 → reader.line.items ≡ take reader.taken input

-- So many bytes of the input's first line were taken.
pub record IsTaken (input : List ℕ) (reader : LineReader) : Type 0 where
  pub within : reader.taken ≤ length input
  pub lacks : Lacks 10 (take reader.taken input)
  pub line : reader.taken ≤ 1048577 → reader.line.items ≡ take reader.taken input

-- a part that lacks a byte, and one more that does
lacks-append : (separator : ℕ) (one two : List ℕ) → Lacks separator one → Lacks separator two → Lacks separator (one ++ two)
lacks-append separator one two first second =
    list_any-append (λ b. b == separator) one two ∙ ap (λ (b : Bool). b || Rattle.std.specs.List.list_any (λ x. x == separator) two) first ∙ second

take-nothing : (n : ℕ) → take {A = ℕ} n [] ≡ []
take-nothing zero = refl
take-nothing (suc n) = refl

-- the bytes of one more piece
take-more : (n count : ℕ) (input : List ℕ) → take (n + count) input ≡ take n input ++ take count (drop n input)
take-more zero count input = let same : 0 + count ≡ count = omega arith in ap (λ (n : ℕ). take n input) same
take-more (suc n) count [] = let next : suc n + count ≡ suc (n + count) = omega arith in ap (λ (m : ℕ). take {A = ℕ} m []) next ∙ sym (take-nothing count)
take-more (suc n) count (b ∷ input) =
    let next : suc n + count ≡ suc (n + count) = omega arith in
    ap (λ (m : ℕ). take m (b ∷ input)) next ∙ ap (λ (l : List ℕ). b ∷ l) (take-more n count input)

module _ (input rest : List ℕ) (old new : LineReader) (ended : Bool) (taking : IsTaking input old rest) (piece : TakesPiece ended old new) where
  -- what was taken so far, and the piece
  taken-is : take new.taken input ≡ take old.taken input ++ take piece.count (pending old)
  taken-is =
      ap (λ (n : ℕ). take n input) piece.later
      ∙ take-more old.taken piece.count input
      ∙ ap (λ (l : List ℕ). take old.taken input ++ take piece.count l) taking.left
      ∙ ap (λ (l : List ℕ). take old.taken input ++ l) (take-append-le piece.count (pending old) rest piece.within)

  left-is : drop new.taken input ≡ drop piece.count (pending old) ++ rest
  left-is =
      ap (λ (n : ℕ). drop n input) piece.later
      ∙ sym (drop-drop piece.count old.taken input)
      ∙ ap (λ (l : List ℕ). drop piece.count l) taking.left
      ∙ drop-append-le piece.count (pending old) rest piece.within

  within-is : new.taken ≤ length input
  within-is = omega (arith, piece.later, piece.within, taking.within, ap length taking.left, length-drop old.taken input, length-append (pending old) rest)

  lacks-is : Lacks 10 (take new.taken input)
  lacks-is = subst (λ (l : List ℕ). Lacks 10 l) (sym taken-is) (lacks-append 10 (take old.taken input) (take piece.count (pending old)) taking.lacks piece.lacks)

  line-is : new.taken ≤ 1048577 → new.line.items ≡ take new.taken input
  line-is short = piece.line short ∙ ap (λ (l : List ℕ). l ++ take piece.count (pending old)) (taking.line (omega (arith, short, piece.later))) ∙ sym taken-is

  -- the line goes on
  pub goes_on : ended ≡ false → IsTaking input new rest
  goes_on more =
      let all = piece.all more in
      let none : drop piece.count (pending old) ≡ [] = drop_all piece.count (pending old) (omega (arith, all.0)) in
      let nothing : new.end - new.at ≡ 0 = omega (arith, all.1) in
      record {
        within = within-is;
        lacks = lacks-is;
        left = left-is ∙ ap (λ (l : List ℕ). l ++ rest) none ∙ sym (ap (λ (n : ℕ). take n (drop new.at new.buffer.items) ++ rest) nothing);
        line = line-is;
      }

  -- the line's end was met: what was taken is the first line
  pub first_line : ended ≡ true → lines_of input ≡ take new.taken input ∷ lines_of (unread new rest)
  first_line met =
      let split : input ≡ take new.taken input ++ 10 ∷ unread new rest =
      sym (take-append-drop new.taken input) ∙ ap (λ (l : List ℕ). take new.taken input ++ l) (left-is ∙ ap (λ (l : List ℕ). l ++ rest) (piece.met met)) in
      ap lines_of split ∙ cut_at-found 10 [] (take new.taken input) (unread new rest) lacks-is

  pub ends : IsTaken input new
  ends = record { within = within-is; lacks = lacks-is; line = line-is }

-- nothing is taken before the first piece
pub begins : (reader : LineReader) (rest : List ℕ) → reader.taken ≡ 0 → reader.line.items ≡ [] → IsTaking (unread reader rest) reader rest
begins reader rest none empty = record {
  within = omega (arith, none);
  lacks = subst (λ (n : ℕ). Lacks 10 (take n (unread reader rest))) (sym none) refl;
  left = ap (λ (n : ℕ). drop n (unread reader rest)) none;
  line = λ short. empty ∙ sym (ap (λ (n : ℕ). take n (unread reader rest)) none);
}

-- at the end of the input what was taken is its last line, where it has a byte
pub last_line : (input : List ℕ) (reader : LineReader) → IsTaken input reader → drop reader.taken input ≡ [] → 0 < reader.taken → lines_of input ≡ take reader.taken input ∷ []
last_line [] reader taken none some = absurd (omega (arith, taken.within))
last_line (b ∷ bytes) reader taken none some =
    let long : length (b ∷ bytes) ≤ reader.taken = omega (arith, ap length none, length-drop reader.taken (b ∷ bytes)) in
    let whole : take reader.taken (b ∷ bytes) ≡ b ∷ bytes = take_all reader.taken (b ∷ bytes) long in
    cut_at-last 10 b bytes (subst (λ (l : List ℕ). Lacks 10 l) whole taken.lacks) ∙ ap (λ (l : List ℕ). l ∷ []) (sym whole)

-- as many units were taken as one run takes
pub exhausts : (input : List ℕ) (units : ℕ) (reader : LineReader) → IsTaken input reader → reader.units ≡ units → IsSpent reader → Exhausts input units
exhausts input units reader taken same spent =
    let size : length (take reader.taken input) ≡ reader.taken = length-take-le reader.taken input taken.within in
    record {
      line = take reader.taken input;
      rest = drop reader.taken input;
      front = sym (take-append-drop reader.taken input);
      lacks = taken.lacks;
      spent = subst (λ (n : ℕ). 2 ^ 32 ≤ units + units_of_length n) (sym size) (subst (λ (n : ℕ). 2 ^ 32 ≤ n + units_of_length reader.taken) same spent);
    }

-- the first line was taken and is counted
takes_line : (input after : List ℕ) (units : ℕ) (reader final : LineReader) → IsTaken input reader → lines_of input ≡ take reader.taken input ∷ lines_of after → reader.units ≡ units → CountsLine reader final → TakesLine (take reader.taken input) input after units final.units
takes_line input after units reader final taken first same counts =
    let size : length (take reader.taken input) ≡ reader.taken = length-take-le reader.taken input taken.within in
    record {
      lines = first;
      counted = counts.units ∙ ap (λ (n : ℕ). n + (1 + units_of_length reader.taken)) same ∙ ap (λ (n : ℕ). units + (1 + units_of_length n)) (sym size);
      within = counts.within;
    }

-- what the end of a line says of the input
pub takes : (what : Taken) (input after : List ℕ) (units : ℕ) (reader final : LineReader) → IsTaken input reader → lines_of input ≡ take reader.taken input ∷ lines_of after → reader.units ≡ units → EndsLine what reader final → Takes what input after units final
takes Line input after units reader final taken first same met =
    let line = take reader.taken input in
    let content : content_of line ≡ final.line.items = ap content_of (sym (taken.line met.1.kept)) ∙ sym met.1.content in
    (line, takes_line input after units reader final taken first same met.0, has-content line final.line.items content met.1.short)
takes Long input after units reader final taken first same met =
    let line = take reader.taken input in
    let size : length line ≡ reader.taken = length-take-le reader.taken input taken.within in
    let above : 1048576 < length (content_of line) =
    elim (cases_lt 1048577 reader.taken) [
      | inl many ↦ omega (arith, many, size, length-content line)
      | inr few ↦ subst (λ l. 1048576 < length (content_of l)) (taken.line few) (met.1 few)
    ] in
    (line, takes_line input after units reader final taken first same met.0, is-long line above)
takes End input after units reader final taken first same met = absurd met
takes Spent input after units reader final taken first same met = exhausts input units reader taken same met.0

-- nothing was taken, and what is unread stays so
pub fetched : (input rest rest' : List ℕ) (old new : LineReader) → IsTaking input old rest → new.line ≡ old.line → new.taken ≡ old.taken → unread new rest' ≡ unread old rest → IsTaking input new rest'
fetched input rest rest' old new taking line same left = record {
  within = omega (arith, same, taking.within);
  lacks = subst (λ (n : ℕ). Lacks 10 (take n input)) (sym same) taking.lacks;
  left = ap (λ (n : ℕ). drop n input) same ∙ taking.left ∙ sym left;
  line = λ short. (λ i. (line i).items) ∙ taking.line (omega (arith, short, same)) ∙ sym (ap (λ (n : ℕ). take n input) same);
}

pub taken_so_far : (input rest : List ℕ) (reader : LineReader) → IsTaking input reader rest → IsTaken input reader
taken_so_far input rest reader taking = record { within = taking.within; lacks = taking.lacks; line = taking.line }

-- what stays unread while nothing is taken from the buffer
unread-same : (rest : List ℕ) (reader final : LineReader) → pending final ≡ pending reader → unread final rest ≡ unread reader rest
unread-same rest reader final same = ap (λ (l : List ℕ). l ++ rest) same

-- what the end of the input says of it
pub takes_last : (what : Taken) (input rest : List ℕ) (units : ℕ) (reader final : LineReader) → IsTaking input reader rest → unread reader rest ≡ [] → reader.units ≡ units → HasUnits reader → EndsInput what reader final → Takes what input (unread final rest) units final
takes_last Line input rest units reader final taking none same more ends =
    let taken = taken_so_far input rest reader taking in
    let after : unread final rest ≡ [] = unread-same rest reader final ends.1.0.waiting ∙ none in
    takes Line input (unread final rest) units reader final taken (last_line input reader taken (taking.left ∙ none) ends.0 ∙ sym (ap (λ (l : List ℕ). take reader.taken input ∷ lines_of l) after)) same ends.1
takes_last Long input rest units reader final taking none same more ends =
    let taken = taken_so_far input rest reader taking in
    let after : unread final rest ≡ [] = unread-same rest reader final ends.1.0.waiting ∙ none in
    takes Long input (unread final rest) units reader final taken (last_line input reader taken (taking.left ∙ none) ends.0 ∙ sym (ap (λ (l : List ℕ). take reader.taken input ∷ lines_of l) after)) same ends.1
takes_last End input rest units reader final taking none same more ends =
    let nothing : input ≡ [] = sym (ap (λ (n : ℕ). drop n input) ends.0) ∙ taking.left ∙ none in
    (nothing, unread-same rest reader final ends.1.waiting ∙ none, ends.2 ∙ same, omega (arith, same, more))
takes_last Spent input rest units reader final taking none same more ends = exhausts input units reader (taken_so_far input rest reader taking) same ends.1.0

-- what the end of a line says of the input, of which the rest is still unread
pub takes_ended : (what : Taken) (input rest : List ℕ) (units : ℕ) (reader final : LineReader) → IsTaken input reader → lines_of input ≡ take reader.taken input ∷ lines_of (unread reader rest) → reader.units ≡ units → EndsLine what reader final → Takes what input (unread final rest) units final
takes_ended Line input rest units reader final taken first same ends =
    takes Line input (unread final rest) units reader final taken (first ∙ sym (ap (λ (l : List ℕ). take reader.taken input ∷ lines_of l) (unread-same rest reader final ends.0.waiting))) same ends
takes_ended Long input rest units reader final taken first same ends =
    takes Long input (unread final rest) units reader final taken (first ∙ sym (ap (λ (l : List ℕ). take reader.taken input ∷ lines_of l) (unread-same rest reader final ends.0.waiting))) same ends
takes_ended End input rest units reader final taken first same ends = absurd ends
takes_ended Spent input rest units reader final taken first same ends = exhausts input units reader taken same ends.0
