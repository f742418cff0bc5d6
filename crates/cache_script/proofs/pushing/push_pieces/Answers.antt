use Rattle.std.proofs.Common.{◌≡◌, ◌++◌, flat_map, sym, subst}
use Rattle.std.proofs.lemmas.List.{take_rest}
use Rattle.cache_model.specs.Tokens.{byte_text}
use Rattle.cache_script.specs.Pushing.{Extends, AddsPiece}
use Rattle.cache_script.proofs.PushingLemmas.{text-more, extends-twice, extends-more}
use Rattle.cache_script.proofs.pushing.push_pieces.Goals as goal

pub loop-rest-preserved : goal.loop-rest-preserved
loop-rest-preserved c =
    let piece : AddsPiece c.loop-rest.rest.now c.loop-rest.out.items c.push_piece.new.out.items c.in_ok-count.count = c.in_ok-count.ensures in
    record {
      text =
          subst (λ rest. c.push_piece.new.out.items ++ flat_map byte_text rest ≡ c.args.out.now.items ++ flat_map byte_text c.args.bytes.now) (sym (take_rest c.loop-rest.rest.now c.in_ok-count.count))
          (text-more c.loop-rest.rest.now c.loop-rest.out.items c.push_piece.new.out.items (c.args.out.now.items ++ flat_map byte_text c.args.bytes.now) c.in_ok-count.count c.loop-rest.invariant.text piece);
      front = extends-twice c.args.out.now.items c.loop-rest.out.items c.push_piece.new.out.items c.loop-rest.invariant.front (subst (λ l. Extends c.loop-rest.out.items l) (sym piece.added) (extends-more c.loop-rest.out.items _));
    }
