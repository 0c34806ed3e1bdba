-- The law holds.
use Rattle.laws.proofs.Rows.{slips_hold}
use Rattle.laws.proofs.slips_hold.Goals as goal

pub returns : goal.returns
returns c = slips_hold
