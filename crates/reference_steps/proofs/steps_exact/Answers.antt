-- The law holds.
use Rattle.reference_steps.proofs.Exact.{steps_exact}
use Rattle.reference_steps.proofs.steps_exact.Goals as goal

pub returns : goal.returns
returns c = steps_exact
