-- The law holds.
use Rattle.laws.proofs.Feedings.{cut_short_finishes}
use Rattle.laws.proofs.cut_short_finishes.Goals as goal

pub returns : goal.returns
returns c = cut_short_finishes
