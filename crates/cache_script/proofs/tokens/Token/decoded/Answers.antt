use Rattle.std.proofs.Common.{◌≡◌, ◌∙◌, sym, ap, arith, ◌++◌, []}
use Rattle.std.proofs.lemmas.List.{nil_from_length}
use Rattle.std.proofs.lemmas.Option.{MatchOption-at_some}
use Rattle.std.specs.Bool.{⊤}
use Rattle.cache_script.specs.Tokens.{bytes_behind}
use Rattle.cache_script.proofs.TokenLemmas.{some-pieces}
use Rattle.cache_script.proofs.tokens.Token.decoded.Goals as goal
use Rattle.cache_script.proofs.tokens.Token.decoded.Goals.{then-self-gt0+in_ok-push_pieces, else-self-gt0}

pub returns : goal.returns
returns c =
    let word = c.self.inside.word.now in
    elim c.if-self-gt0.branch [
      | then-self-gt0+in_ok-push_pieces w ↦
          let pieces = some-pieces word c.self.inside.count c.self.invariant w.if-self-gt0.true in
          let pushed : w.push_pieces.new.out.items ≡ c.in_ok-bytes.bytes.items ++ bytes_behind word = MatchOption-at_some ⊤ (λ bytes. w.push_pieces.new.out.items ≡ c.in_ok-bytes.bytes.items ++ bytes) (bytes_behind word) pieces w.in_ok-push_pieces.ensures in
          ap (λ v. v.items) w.bytes-is ∙ pushed ∙ ap (λ l. l ++ bytes_behind word) c.in_ok-bytes.ensures.items ∙ c.self.view_is
      | else-self-gt0 w ↦
          let empty : bytes_behind word ≡ [] = nil_from_length (bytes_behind word) (omega (arith, w.if-self-gt0.false, c.self.invariant.counted)) in
          ap (λ v. v.items) w.bytes-is ∙ c.in_ok-bytes.ensures.items ∙ sym empty ∙ c.self.view_is
    ]
