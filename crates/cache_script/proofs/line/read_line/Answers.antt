use Rattle.std.proofs.Common.{◌≡◌, ℕ, List, drop, None, Err, refl, sym, ◌∙◌, ap, subst}
use Rattle.cache_model.specs.Lines.{row_command, command_rows, words_command, within_limits, content_meaning, refuses}
use Rattle.cache_model.specs.Replies.{syntax}
use Rattle.cache_script.specs.declared.faults.LineFault.TheVariants.{Syntax}
use Rattle.cache_script.specs.Reading.{Reads}
use Rattle.cache_script.specs.Rows.{row_arguments}
use Rattle.cache_script.proofs.ReadingLemmas.{content_meaning-words, words_command-named, words_command-none, fault-answers}
use Rattle.cache_script.proofs.Known.{read_known}
use Rattle.cache_script.proofs.line.read_line.Goals as goal

pub returns-in_default-clause-read : goal.returns-in_default-clause-read
returns-in_default-clause-read c =
    let meaning : content_meaning c.args.line.now ≡ refuses syntax =
    content_meaning-words c.args.line.now ∙ ap within_limits (ap words_command (sym c.of-words.ensures) ∙ words_command-none c.of-words.result c.in_default.ensures.word) in
    subst (λ m. Reads m (Err Syntax)) (sym meaning) refl

pub returns-in_default-clause-refused : goal.returns-in_default-clause-refused
returns-in_default-clause-refused c = fault-answers (content_meaning c.args.line.now) (Err Syntax) (returns-in_default-clause-read c)

pub returns-in-Some-row_of-clause-read : goal.returns-in-Some-row_of-clause-read
returns-in-Some-row_of-clause-read c =
    let named : (words : List (List ℕ)) → row_command command_rows c.in-Some.name.now words ≡ row_arguments c.in-Some-row_of.row words = c.in-Some-row_of.ensures in
    let words = c.of-words.result in
    let meaning : content_meaning c.args.line.now ≡ within_limits (row_arguments c.in-Some-row_of.row c.next.new.self) =
    content_meaning-words c.args.line.now
    ∙ ap within_limits (ap words_command (sym c.of-words.ensures) ∙ words_command-named words c.in-Some.name.now c.in-Some.ensures.word ∙ named (drop 1 words) ∙ ap (row_arguments c.in-Some-row_of.row) (sym c.in-Some.ensures.left)) in
    subst (λ m. Reads m c.read_row.result) (sym meaning) c.read_row.ensures.read

pub returns-in-Some-row_of-clause-known : goal.returns-in-Some-row_of-clause-known
returns-in-Some-row_of-clause-known c = read_known c.args.line.now c.read_row.result (returns-in-Some-row_of-clause-read c)

pub returns-in-Some-row_of-clause-refused : goal.returns-in-Some-row_of-clause-refused
returns-in-Some-row_of-clause-refused c = fault-answers (content_meaning c.args.line.now) c.read_row.result (returns-in-Some-row_of-clause-read c)

pub returns-in-None-clause-read : goal.returns-in-None-clause-read
returns-in-None-clause-read c =
    let unnamed : (words : List (List ℕ)) → row_command command_rows c.in-Some.name.now words ≡ None = c.in-None.ensures in
    let words = c.of-words.result in
    let meaning : content_meaning c.args.line.now ≡ refuses syntax =
    content_meaning-words c.args.line.now ∙ ap within_limits (ap words_command (sym c.of-words.ensures) ∙ words_command-named words c.in-Some.name.now c.in-Some.ensures.word ∙ unnamed (drop 1 words)) in
    subst (λ m. Reads m (Err Syntax)) (sym meaning) refl

pub returns-in-None-clause-refused : goal.returns-in-None-clause-refused
returns-in-None-clause-refused c = fault-answers (content_meaning c.args.line.now) (Err Syntax) (returns-in-None-clause-read c)
