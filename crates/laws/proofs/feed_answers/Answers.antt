-- The law holds.
use Rattle.laws.proofs.Feedings.{feed_answers}
use Rattle.laws.proofs.feed_answers.Goals as goal

pub returns : goal.returns
returns c = feed_answers
