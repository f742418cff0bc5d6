use Rattle.std.proofs.Common.{◌≡◌, ◌≤◌, ◌+◌, ◌-◌, ◌∷◌, subst, take, List, ℕ, length, drop, sym, ◌∙◌, ap, arith}
use Rattle.cache_model.specs.Lines.{IsFirst}
use Rattle.cache_script.specs.LineReader.{pending}
use Rattle.cache_script.proofs.Pending.{between, between-later, behind-first}
use Rattle.cache_script.proofs.line_reader.LineReader.take_piece.Goals as goal

pub returns-in_ok-keep-in-Some-clause-taken : goal.returns-in_ok-keep-in-Some-clause-taken
returns-in_ok-keep-in-Some-clause-taken c =
    let old = c.args.self.now in
    let kept = c.in_ok-keep-in-Some.ensures.kept in
    let now = c.keep.new.self in
    let first = subst (λ (b : List ℕ). IsFirst 10 (take (old.end - old.at) (drop old.at b)) c.in-Some.count) c.deref.ensures.value c.in-Some.ensures in
    let count = c.in-Some.count in
    let behind = behind-first 10 (pending old) count first in
    let some : 1 ≤ length (pending now) = omega (arith, ap length kept.left, ap length behind) in
    let later : between now.buffer.items (now.at + 1) now.end ≡ drop 1 (pending now) = between-later now.buffer.items now.at now.end 1 (omega (arith, some, kept.more)) in
    record {
      count = count;
      later = kept.later;
      within = omega (arith, first.within);
      lacks = first.lacks;
      met = λ _. behind ∙ ap (λ (l : List ℕ). 10 ∷ l) (sym (later ∙ ap (λ (l : List ℕ). drop 1 l) kept.left));
      all = λ no. absurd (cc);
      line = kept.line;
    }
