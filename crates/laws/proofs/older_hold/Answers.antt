-- The law holds.
use Rattle.laws.proofs.Rows.{older_hold}
use Rattle.laws.proofs.older_hold.Goals as goal

pub returns : goal.returns
returns c = older_hold
