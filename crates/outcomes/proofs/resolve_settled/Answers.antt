-- The law holds.
use Rattle.outcomes.proofs.ResolveSettled.{resolve_settled}
use Rattle.outcomes.proofs.resolve_settled.Goals as goal

pub returns : goal.returns
returns c = resolve_settled
