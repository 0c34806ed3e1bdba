-- The law holds.
use Rattle.laws.proofs.Rows.{references_hold}
use Rattle.laws.proofs.references_hold.Goals as goal

pub returns : goal.returns
returns c = references_hold
