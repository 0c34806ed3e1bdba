-- The law holds.
use Rattle.grammar.proofs.Readings.{decided}
use Rattle.grammar.proofs.decided.Goals as goal

pub returns : goal.returns
returns c = decided
