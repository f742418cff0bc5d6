use Rattle.dropping.proofs.Copied.{copies_keep}
use Rattle.dropping.proofs.copies_keep.Goals as goal

pub returns : goal.returns
returns c = copies_keep
