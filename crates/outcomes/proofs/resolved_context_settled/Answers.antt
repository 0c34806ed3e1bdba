-- The law holds.
use Rattle.outcomes.proofs.ResolvedContextSettled.{resolved_context_settled}
use Rattle.outcomes.proofs.resolved_context_settled.Goals as goal

pub returns : goal.returns
returns c = resolved_context_settled
