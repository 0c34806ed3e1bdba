-- The law holds.
use Rattle.outcomes.proofs.FeedSettled.{finish_settled}
use Rattle.outcomes.proofs.finish_settled.Goals as goal

pub returns : goal.returns
returns c = finish_settled
