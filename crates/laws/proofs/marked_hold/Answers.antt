-- The law holds.
use Rattle.laws.proofs.Rows.{marked_hold}
use Rattle.laws.proofs.marked_hold.Goals as goal

pub returns : goal.returns
returns c = marked_hold
