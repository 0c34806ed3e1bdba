-- The law holds.
use Rattle.outcomes.proofs.SearchSettled.{search_settled}
use Rattle.outcomes.proofs.search_settled.Goals as goal

pub returns : goal.returns
returns c = search_settled
