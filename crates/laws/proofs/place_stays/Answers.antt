-- The law holds.
use Rattle.laws.proofs.Feedings.{place_stays}
use Rattle.laws.proofs.place_stays.Goals as goal

pub returns : goal.returns
returns c = place_stays
