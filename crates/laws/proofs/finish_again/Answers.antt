-- The law holds.
use Rattle.laws.proofs.FinishedAgain.{finish_again}
use Rattle.laws.proofs.finish_again.Goals as goal

pub returns : goal.returns
returns c = finish_again
