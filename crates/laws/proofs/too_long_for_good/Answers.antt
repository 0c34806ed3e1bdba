-- The law holds.
use Rattle.laws.proofs.Feedings.{too_long_for_good}
use Rattle.laws.proofs.too_long_for_good.Goals as goal

pub returns : goal.returns
returns c = too_long_for_good
