use Rattle.dropping.proofs.Leaving.{pending}
use Rattle.dropping.proofs.pending_deletions_keep.Goals as goal

pub returns : goal.returns
returns c = pending
