use Rattle.std.proofs.Common.{◌≡◌, ◌++◌, flat_map, take, codes}
use Rattle.cache_model.specs.Tokens.{token_text}
use Rattle.cache_script.proofs.replies.push_key_words.Given as goal

abbrev pub invariant-loop-key : goal.invariant-loop-key
invariant-loop-key l = l.out.items ≡ l.fn.out.items ++ flat_map (λ key. codes " " ++ token_text key) (take l.key-index l.keys)
