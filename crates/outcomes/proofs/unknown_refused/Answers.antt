-- The law holds.
use Rattle.outcomes.proofs.Refusing.{unknown_refused}
use Rattle.outcomes.proofs.unknown_refused.Goals as goal

pub returns : goal.returns
returns c = unknown_refused
