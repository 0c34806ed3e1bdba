-- The law holds.
use Rattle.sequences.proofs.OnesTell.{ones_tell}
use Rattle.sequences.proofs.ones_tell.Goals as goal

pub returns : goal.returns
returns c = ones_tell
