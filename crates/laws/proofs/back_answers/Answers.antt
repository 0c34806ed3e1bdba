-- The law holds.
use Rattle.laws.proofs.Answers.{back_answers}
use Rattle.laws.proofs.back_answers.Goals as goal

pub returns : goal.returns
returns c = back_answers
