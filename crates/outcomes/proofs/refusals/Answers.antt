-- The law holds.
use Rattle.outcomes.proofs.Refusing.{refusals}
use Rattle.outcomes.proofs.refusals.Goals as goal

pub returns : goal.returns
returns c = refusals
