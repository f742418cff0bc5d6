use Rattle.dropping.proofs.Without.{reads_alike}
use Rattle.dropping.proofs.files_may_go.Goals as goal

pub returns : goal.returns
returns c = λ image lesser number mark without here there loses. reads_alike image lesser number without mark loses
