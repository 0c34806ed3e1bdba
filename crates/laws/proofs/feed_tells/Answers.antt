-- The law holds.
use Rattle.laws.proofs.Feedings.{feed_tells}
use Rattle.laws.proofs.feed_tells.Goals as goal

pub returns : goal.returns
returns c = feed_tells
