-- The law holds.
use Rattle.laws.proofs.Answers.{join_answers}
use Rattle.laws.proofs.join_answers.Goals as goal

pub returns : goal.returns
returns c = join_answers
