-- The law holds.
use Rattle.outcomes.proofs.CopySettled.{copy_settled}
use Rattle.outcomes.proofs.copy_settled.Goals as goal

pub returns : goal.returns
returns c = copy_settled
