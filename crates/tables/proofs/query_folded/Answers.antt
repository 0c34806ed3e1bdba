-- The law holds.
use Rattle.tables.proofs.Queries.{query_folded}
use Rattle.tables.proofs.query_folded.Goals as goal

pub returns : goal.returns
returns c = query_folded
