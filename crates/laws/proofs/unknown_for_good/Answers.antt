-- The law holds.
use Rattle.laws.proofs.HandedRight.{unknown_for_good}
use Rattle.laws.proofs.unknown_for_good.Goals as goal

pub returns : goal.returns
returns c = unknown_for_good
