-- The law holds.
use Rattle.laws.proofs.Rows.{targets_asked}
use Rattle.laws.proofs.targets_asked.Goals as goal

pub returns : goal.returns
returns c = targets_asked
