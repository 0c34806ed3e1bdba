-- The law holds.
use Rattle.tables.proofs.ReadBack.{read_back}
use Rattle.tables.proofs.read_back.Goals as goal

pub returns : goal.returns
returns c = read_back
