-- The law holds.
use Rattle.outcomes.proofs.ReadSettled.{read_settled}
use Rattle.outcomes.proofs.read_settled.Goals as goal

pub returns : goal.returns
returns c = read_settled
