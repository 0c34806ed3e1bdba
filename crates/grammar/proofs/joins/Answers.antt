-- The law holds.
use Rattle.grammar.proofs.Joining.{joins}
use Rattle.grammar.proofs.joins.Goals as goal

pub returns : goal.returns
returns c = joins
