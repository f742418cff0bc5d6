use Rattle.std.proofs.Common.{◌≡◌, drop}
use Rattle.cache_model.specs.Files.{file_in}
use Rattle.host_memory.proofs.directory.file_named.Given as goal

abbrev pub invariant-loop-file : goal.invariant-loop-file
invariant-loop-file l = file_in l.files l.name ≡ file_in (drop l.file-index l.files) l.name
