-- The law holds.
use Rattle.laws.proofs.Rows.{mirror_holds}
use Rattle.laws.proofs.mirror_holds.Goals as goal

pub returns : goal.returns
returns c = mirror_holds
