-- The law holds.
use Rattle.tables.proofs.Decide.{good_decided}
use Rattle.tables.proofs.good_decided.Goals as goal

pub returns : goal.returns
returns c = good_decided
