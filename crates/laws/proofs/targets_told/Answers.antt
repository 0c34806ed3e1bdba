-- The law holds.
use Rattle.laws.proofs.TargetsTold.{targets_told}
use Rattle.laws.proofs.targets_told.Goals as goal

pub returns : goal.returns
returns c = targets_told
