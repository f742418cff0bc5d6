use Rattle.std.proofs.Common.{◌≡◌, ℕ, List, ◌+◌, ◌-◌, ◌++◌, length, ap, ◌∙◌, arith, length-append}
use Rattle.cache_script.specs.Pieces.{escaped}
use Rattle.cache_script.proofs.PieceLemmas.{escaped-room}
use Rattle.cache_script.proofs.tokens.push_escapes.Goals as goal

pub returns : goal.returns
returns c =
    let bytes = c.args.bytes.now in
    let old = c.args.out.now.items in
    let added : c.push_escaped.new.out.items ≡ old ++ escaped bytes = c.in_ok-push_escaped.ensures in
    let grown : length c.push_escaped.new.out.items ≡ length old + length (escaped bytes) = ap (λ (l : List ℕ). length l) added ∙ length-append old (escaped bytes) in
    let count : c.len.result - c.len-before.result ≡ length (escaped bytes) = omega (arith, c.len.ensures, c.len-before.ensures, grown) in
    record { added = added; count = count; within = omega (arith, count, escaped-room bytes) }
