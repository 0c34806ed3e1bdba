-- The law holds.
use Rattle.laws.proofs.Answers.{written_apart}
use Rattle.laws.proofs.written_apart.Goals as goal

pub returns : goal.returns
returns c = written_apart
