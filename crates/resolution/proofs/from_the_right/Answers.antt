-- The law holds.
use Rattle.resolution.proofs.Agreeing.{from_the_right}
use Rattle.resolution.proofs.from_the_right.Goals as goal

pub returns : goal.returns
returns c = from_the_right
