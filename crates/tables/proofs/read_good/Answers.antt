-- The law holds.
use Rattle.tables.proofs.FromReading.{read_good}
use Rattle.tables.proofs.read_good.Goals as goal

pub returns : goal.returns
returns c = read_good
