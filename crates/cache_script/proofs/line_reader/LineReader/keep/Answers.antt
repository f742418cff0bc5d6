use Rattle.std.proofs.Common.{take, drop, ◌≤◌, ◌+◌, ◌-◌, ◌++◌, List, ℕ, ◌∙◌, refl, ap, arith}
use Rattle.cache_script.proofs.Pending.{length-between, between-later, between-front}
use Rattle.cache_script.proofs.line_reader.LineReader.keep.Goals as goal

pub returns-clause-kept : goal.returns-clause-kept
returns-clause-kept c =
    let old = c.args.self.now in
    let count = c.args.count in
    let size = length-between old.buffer.items old.at old.end old.in_order old.in_buffer in
    let inside : old.at + count ≤ old.end = omega (arith, c.requires.within, size, old.in_order) in
    record {
      later = refl;
      left = between-later old.buffer.items old.at old.end count inside;
      more = omega (arith, inside, length-between old.buffer.items (old.at + count) old.end inside old.in_buffer);
      line = λ short. c.in_ok-extend_line.ensures.line short ∙ ap (λ (b : List ℕ). old.line.items ++ take (old.at + count - old.at) (drop old.at b)) c.deref.ensures.value ∙ ap (λ (l : List ℕ). old.line.items ++ l) (between-front old.buffer.items old.at old.end count inside);
    }
