-- The law holds.
use Rattle.outcomes.proofs.TitleSettled.{title_settled}
use Rattle.outcomes.proofs.title_settled.Goals as goal

pub returns : goal.returns
returns c = title_settled
