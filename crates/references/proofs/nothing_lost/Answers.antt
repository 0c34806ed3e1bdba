-- The law holds.
use Rattle.references.proofs.Whole.{nothing_lost}
use Rattle.references.proofs.nothing_lost.Goals as goal

pub returns : goal.returns
returns c = nothing_lost
