use Rattle.dropping.proofs.Without.{same_entries}
use Rattle.dropping.proofs.outdone_files_may_go.Goals as goal

pub returns : goal.returns
returns c = same_entries
