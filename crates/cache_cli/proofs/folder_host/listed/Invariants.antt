use Rattle.std.proofs.Common.{All}
use Rattle.cache_model.specs.Files.{IsFileName}
use Rattle.cache_cli.proofs.folder_host.listed.Given as goal

abbrev pub invariant-loop-entry : goal.invariant-loop-entry
invariant-loop-entry g l = All IsFileName l.names.items
