-- The law holds.
use Rattle.outcomes.proofs.WriteSettled.{write_settled}
use Rattle.outcomes.proofs.write_settled.Goals as goal

pub returns : goal.returns
returns c = write_settled
