-- The law holds.
use Rattle.octets.proofs.Pairs.{pairs_tell}
use Rattle.octets.proofs.pairs_tell.Goals as goal

pub returns : goal.returns
returns c = pairs_tell
