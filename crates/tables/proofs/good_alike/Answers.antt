-- The law holds.
use Rattle.tables.proofs.GoodAlike.{good_alike}
use Rattle.tables.proofs.good_alike.Goals as goal

pub returns : goal.returns
returns c = good_alike
