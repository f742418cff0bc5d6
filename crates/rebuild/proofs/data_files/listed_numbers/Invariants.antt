use Rattle.std.proofs.Common.{◌≡◌, take}
use Rattle.std.specs.Prelude.{filter_map}
use Rattle.rebuild.specs.Listing.{number_in}
use Rattle.rebuild.proofs.data_files.listed_numbers.Given as goal

abbrev pub invariant-loop-name : goal.invariant-loop-name
invariant-loop-name l = l.numbers.items ≡ filter_map number_in (take l.name-index l.names)
