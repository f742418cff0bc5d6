-- Numbers that are taken by one call and then by more.
use Rattle.std.proofs.Common.{◌≡◌, ℕ, ◌+◌, Option, Some, None, refl, subst, arith, ⊎_elim}
use Rattle.std.proofs.lemmas.Bool.{cases_lt}
use Rattle.store_trait.specs.Meaning.{Numbers, StoreFacts}
use Rattle.store_trait.specs.Calls.{GoesOnBy, IsNumbered, DrawsNone}

goes_then : (n m : ℕ) (a b c : Numbers) → GoesOnBy n a b → GoesOnBy m b c → GoesOnBy (n + m) a c
goes_then n m a b c ab bc = record {
  sequence = omega (arith, ab.sequence, bc.sequence);
  file = omega (arith, ab.file, bc.file);
  within = λ some. ⊎_elim
      (λ none. let w = ab.within (omega (arith, some, none)) in (omega (arith, w.0, bc.sequence, none), w.1))
      (λ more. let w = bc.within more in (w.0, omega (arith, w.1, ab.file)))
      (cases_lt m 1);
}

pub numbered_then : (n m : ℕ) (a b c : Option Numbers) → IsNumbered n a b → IsNumbered m b c → IsNumbered (n + m) a c
numbered_then n m None b c first second = subst (λ (o : Option Numbers). IsNumbered m o c) first second
numbered_then n m (Some a) b c first second =
    let more : IsNumbered m (Some first.0) c = subst (λ (o : Option Numbers). IsNumbered m o c) first.1 second in
    (more.0, more.1, goes_then n m a first.0 more.0 first.2 more.2)

pub numbered_by : (n m : ℕ) (a b : Option Numbers) → n ≡ m → IsNumbered n a b → IsNumbered m a b
numbered_by n m a b same first = subst (λ (k : ℕ). IsNumbered k a b) same first

pub draws_then : (f g h : StoreFacts) → DrawsNone f g → DrawsNone g h → DrawsNone f h
draws_then f g h fg gh = record {
  drawn = omega (arith, fg.drawn, gh.drawn);
  made = omega (arith, fg.made, gh.made);
  numbers = numbered_then 0 0 f.numbers g.numbers h.numbers fg.numbers gh.numbers;
}

numbered_none : (a : Option Numbers) → IsNumbered 0 a a
numbered_none None = refl
numbered_none (Some a) = (a, refl, record { sequence = omega arith; file = omega arith; within = λ some. absurd (omega (arith, some)) })

pub draws_none : (f : StoreFacts) → DrawsNone f f
draws_none f = record { drawn = omega arith; made = omega arith; numbers = numbered_none f.numbers }
