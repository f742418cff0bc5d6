use Rattle.std.proofs.Common.{length, ap, refl, sym, ◌∙◌}
use Rattle.std.specs.Prelude.{option_map}
use Rattle.std.proofs.lemmas.Result.{on_ok_weaker}
use Rattle.cache_model.specs.declared.files.FileName.{FileName}
use Rattle.cache_model.specs.Files.{bytes_in, file_in}
use Rattle.cache_model.specs.Images.{log_name}
use Rattle.rebuild.proofs.FileRows.{next-file-same, row-added, size-is, taken-same}
use Rattle.rebuild.proofs.ReadRecords.{bytes-same}
use Rattle.rebuild.proofs.scanning.read_file.Goals as goal

pub take_items-requires-clause-scans : goal.take_items-requires-clause-scans
take_items-requires-clause-scans g c told =
    let a = g.H.Host.state c.args.host.now in
    let b = g.H.Host.state c.size.new.self in
    let name = log_name c.args.number in
    let sized = c.in_ok-size.ensures.told told in
    let length_is = sized.length ∙ ap (λ (n : FileName). option_map length (file_in a.files n)) c.log_name.ensures in
    let size = c.unwrap_or-size.ensures ∙ size-is c.in_ok-size.field-0 (file_in a.files name) length_is in
    (c.reopen.ensures.begins (bytes_in b.files name) (ap length (bytes-same a.files b.files name sized.stands.files) ∙ sym size)).0

pub take_items-requires-clause-taken : goal.take_items-requires-clause-taken
take_items-requires-clause-taken g c told =
    let a = g.H.Host.state c.args.host.now in
    let b = g.H.Host.state c.size.new.self in
    let some = c.requires.taken told in
    let sized = c.in_ok-size.ensures.told told in
    let length_is = sized.length ∙ ap (λ (n : FileName). option_map length (file_in a.files n)) c.log_name.ensures in
    let size = c.unwrap_or-size.ensures ∙ size-is c.in_ok-size.field-0 (file_in a.files (log_name c.args.number)) length_is in (
      some.0,
      row-added a.files b.files c.args.bits c.args.number c.unwrap_or-size.result c.args.tree.now.entries c.args.figures.now _ some.0 sized.stands.files size some.2 c.in_ok-add.ensures.added refl refl some.1,
      next-file-same a.files b.files some.0 c.args.number sized.stands.files some.2,
    )

pub returns-clause-read : goal.returns-clause-read
returns-clause-read g c told counted stands next =
    let a = g.H.Host.state c.args.host.now in
    let b = g.H.Host.state c.size.new.self in
    let sized = c.in_ok-size.ensures.told told in
    let length_is = sized.length ∙ ap (λ (n : FileName). option_map length (file_in a.files n)) c.log_name.ensures in
    let size = c.unwrap_or-size.ensures ∙ size-is c.in_ok-size.field-0 (file_in a.files (log_name c.args.number)) length_is in
    on_ok_weaker c.take_items.result
    (taken-same a.files b.files c.args.bits c.args.number c.take_items.new.tree.entries c.take_items.new.figures counted sized.stands.files)
    (c.take_items.ensures.read told counted
    (row-added a.files b.files c.args.bits c.args.number c.unwrap_or-size.result c.args.tree.now.entries c.args.figures.now _ counted sized.stands.files size next c.in_ok-add.ensures.added refl refl stands)
    (next-file-same a.files b.files counted c.args.number sized.stands.files next))
