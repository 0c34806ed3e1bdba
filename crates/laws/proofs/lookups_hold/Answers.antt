-- The law holds.
use Rattle.laws.proofs.Rows.{lookups_hold}
use Rattle.laws.proofs.lookups_hold.Goals as goal

pub returns : goal.returns
returns c = lookups_hold
