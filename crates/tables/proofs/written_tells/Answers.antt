-- The law holds.
use Rattle.tables.proofs.ReadBack.{written_tells}
use Rattle.tables.proofs.written_tells.Goals as goal

pub returns : goal.returns
returns c = written_tells
