-- The law holds.
use Rattle.laws.proofs.Answers.{reads_alike}
use Rattle.laws.proofs.reads_alike.Goals as goal

pub returns : goal.returns
returns c = reads_alike
