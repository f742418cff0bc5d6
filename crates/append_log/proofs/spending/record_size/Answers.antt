use Rattle.std.proofs.Common.{◌∙◌, ◌+◌, ℕ, List, ap, length, sym}
use Rattle.cache_model.specs.declared.entries.Change.{Change}
use Rattle.cache_model.specs.Items.{put, removal, spelling}
use Rattle.cache_model.proofs.Spelled.{length-spelling}
use Rattle.record_format.specs.Changing.{item_by}
use Rattle.append_log.proofs.spending.record_size.Goals as goal

pub returns-in-Put-clause-size : goal.returns-in-Put-clause-size
returns-in-Put-clause-size c next =
    ap (λ (l : List ℕ). 23 + length l + length c.bytes-in-Put.result.now) c.bytes.ensures.bytes
    ∙ ap (λ (l : List ℕ). 23 + length c.in-Put.key + length l) c.bytes-in-Put.ensures.bytes
    ∙ sym (length-spelling (put next c.in-Put.entry.until c.in-Put.key c.in-Put.entry.value))
    ∙ ap (λ (change : Change). length (spelling (item_by next change))) (sym c.in-Put.is)

pub returns-in-Remove-clause-size : goal.returns-in-Remove-clause-size
returns-in-Remove-clause-size c next =
    ap (λ (l : List ℕ). 11 + length l) c.bytes-in-Remove.ensures.bytes
    ∙ sym (length-spelling (removal next c.in-Remove.key))
    ∙ ap (λ (change : Change). length (spelling (item_by next change))) (sym c.in-Remove.is)
