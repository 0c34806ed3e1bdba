-- The law holds.
use Rattle.laws.proofs.OneAnswer.{one_answer}
use Rattle.laws.proofs.one_answer.Goals as goal

pub returns : goal.returns
returns c = one_answer
