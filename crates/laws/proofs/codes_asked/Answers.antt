-- The law holds.
use Rattle.laws.proofs.Rows.{codes_asked}
use Rattle.laws.proofs.codes_asked.Goals as goal

pub returns : goal.returns
returns c = codes_asked
