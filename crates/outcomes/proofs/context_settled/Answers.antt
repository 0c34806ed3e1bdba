-- The law holds.
use Rattle.outcomes.proofs.ContextSettled.{context_settled}
use Rattle.outcomes.proofs.context_settled.Goals as goal

pub returns : goal.returns
returns c = context_settled
