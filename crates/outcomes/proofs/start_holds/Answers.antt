-- The law holds.
use Rattle.outcomes.proofs.FeedSettled.{start_holds}
use Rattle.outcomes.proofs.start_holds.Goals as goal

pub returns : goal.returns
returns c = start_holds
