use Rattle.std.proofs.Common.{◌≡◌, ◌++◌, length, subst, sym}
use Rattle.std.specs.Prelude.{option_map}
use Rattle.cache_model.specs.Tokens.{pieces_value}
use Rattle.cache_script.specs.Pieces.{front, AddsNothing, AddsFront}
use Rattle.std.proofs.lemmas.Option.{MatchOption-at_some, MatchOption-at_none}
use Rattle.cache_script.proofs.TokenLemmas.{added-more, added-all}
use Rattle.cache_script.proofs.tokens.push_pieces.Goals as goal

pub loop-behind-preserved : goal.loop-behind-preserved
loop-behind-preserved c =
    let whole = c.args.pieces.now in
    let rest = c.loop-behind.rest.now in
    let old = c.args.out.now.items in
    let adds : AddsFront rest c.loop-behind.out.items c.push_piece.new.out.items c.in-Some.behind.now =
    MatchOption-at_some (AddsNothing rest c.loop-behind.out.items c.push_piece.new.out.items) (λ behind. AddsFront rest c.loop-behind.out.items c.push_piece.new.out.items behind.now) c.in-Some.behind c.in-Some.is c.in_ok-behind.ensures in
    subst (λ out. option_map (λ l. old ++ l) (pieces_value whole) ≡ option_map (λ l. out ++ l) (pieces_value c.in-Some.behind.now)) (sym adds.added)
    (added-more whole rest (front rest) (length (front rest)) c.in-Some.behind.now old c.loop-behind.out.items c.loop-behind.invariant adds.cuts)

pub returns : goal.returns
returns c =
    let rest = c.loop-behind.rest.now in
    let nothing : AddsNothing rest c.loop-behind.out.items c.push_piece.new.out.items =
    MatchOption-at_none (AddsNothing rest c.loop-behind.out.items c.push_piece.new.out.items) (λ behind. AddsFront rest c.loop-behind.out.items c.push_piece.new.out.items behind.now) c.in_default.is c.in_ok-behind.ensures in
    added-all c.args.pieces.now rest c.args.out.now.items c.loop-behind.out.items c.push_piece.new.out.items c.loop-behind.invariant nothing
