-- The law holds.
use Rattle.resolution.proofs.Unchanged.{dots_removed}
use Rattle.resolution.proofs.dots_removed.Goals as goal

pub returns : goal.returns
returns c = dots_removed
