-- The law holds.
use Rattle.resolution.proofs.Itself.{itself_resolved}
use Rattle.resolution.proofs.itself_resolved.Goals as goal

pub returns : goal.returns
returns c = itself_resolved
