-- The law holds.
use Rattle.laws.proofs.Feedings.{cuts_dont_matter}
use Rattle.laws.proofs.cuts_dont_matter.Goals as goal

pub returns : goal.returns
returns c = cuts_dont_matter
