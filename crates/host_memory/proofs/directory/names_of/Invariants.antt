use Rattle.std.proofs.Common.{◌≡◌, map, take}
use Rattle.host_memory.proofs.directory.names_of.Given as goal

abbrev pub invariant-loop-file : goal.invariant-loop-file
invariant-loop-file l = l.names.items ≡ map (λ file. file.0) (take l.file-index l.files)
