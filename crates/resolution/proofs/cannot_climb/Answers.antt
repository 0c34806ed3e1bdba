-- The law holds.
use Rattle.resolution.proofs.Climbing.{cannot_climb}
use Rattle.resolution.proofs.cannot_climb.Goals as goal

pub returns : goal.returns
returns c = cannot_climb
