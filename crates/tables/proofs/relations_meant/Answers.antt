-- The law holds.
use Rattle.tables.proofs.Queries.{relations_meant}
use Rattle.tables.proofs.relations_meant.Goals as goal

pub returns : goal.returns
returns c = relations_meant
