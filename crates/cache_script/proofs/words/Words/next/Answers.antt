use Rattle.std.proofs.Common.{◌≡◌, ◌∙◌, sym, ap, drop, take, ◌∷◌, ◌+◌, []}
use Rattle.std.proofs.lemmas.List.{take_rest}
use Rattle.cache_model.specs.Lines.{words_of}
use Rattle.cache_script.specs.Words.{words_left}
use Rattle.cache_script.proofs.WordLemmas.{one_word, more_words, first-is, rest-is}
use Rattle.cache_script.proofs.words.Words.next.Goals as goal

pub returns-in_default-clause-word : goal.returns-in_default-clause-word
returns-in_default-clause-word c =
    let rest = c.in_ok-rest.rest.now in
    let words : c.args.self.now ≡ rest ∷ [] = sym c.self.view_is ∙ ap words_left c.in_ok-rest.was ∙ one_word rest c.in_default.ensures in
    first-is c.args.self.now [] rest words

pub returns-in_default-clause-left : goal.returns-in_default-clause-left
returns-in_default-clause-left c =
    let rest = c.in_ok-rest.rest.now in
    let words : c.args.self.now ≡ rest ∷ [] = sym c.self.view_is ∙ ap words_left c.in_ok-rest.was ∙ one_word rest c.in_default.ensures in
    rest-is c.args.self.now [] rest words

pub returns-clause-word : goal.returns-clause-word
returns-clause-word c =
    let rest = c.in_ok-rest.rest.now in
    let end = c.in-Some.end in
    let words : c.args.self.now ≡ take end rest ∷ words_of (drop (end + 1) rest) = sym c.self.view_is ∙ ap words_left c.in_ok-rest.was ∙ more_words rest end c.in-Some.ensures in
    first-is c.args.self.now (words_of (drop (end + 1) rest)) (take end rest) words

pub returns-clause-left : goal.returns-clause-left
returns-clause-left c =
    let rest = c.in_ok-rest.rest.now in
    let end = c.in-Some.end in
    let words : c.args.self.now ≡ take end rest ∷ words_of (drop (end + 1) rest) = sym c.self.view_is ∙ ap words_left c.in_ok-rest.was ∙ more_words rest end c.in-Some.ensures in
    ap words_of (take_rest rest (end + 1)) ∙ rest-is c.args.self.now (words_of (drop (end + 1) rest)) (take end rest) words
