-- The law holds.
use Rattle.grammar.proofs.Editions.{apart}
use Rattle.grammar.proofs.editions_apart.Goals as goal

pub returns : goal.returns
returns c = apart
