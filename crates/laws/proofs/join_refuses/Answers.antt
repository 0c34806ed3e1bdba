-- The law holds.
use Rattle.laws.proofs.Answers.{join_refuses}
use Rattle.laws.proofs.join_refuses.Goals as goal

pub returns : goal.returns
returns c = join_refuses
