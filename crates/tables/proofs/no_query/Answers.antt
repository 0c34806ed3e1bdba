-- The law holds.
use Rattle.tables.proofs.Queries.{no_query}
use Rattle.tables.proofs.no_query.Goals as goal

pub returns : goal.returns
returns c = no_query
