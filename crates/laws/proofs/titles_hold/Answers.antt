-- The law holds.
use Rattle.laws.proofs.Titles.{titles_hold}
use Rattle.laws.proofs.titles_hold.Goals as goal

pub returns : goal.returns
returns c = titles_hold
