-- The law holds.
use Rattle.outcomes.proofs.FeedSettled.{feed_settled}
use Rattle.outcomes.proofs.feed_settled.Goals as goal

pub returns : goal.returns
returns c = feed_settled
