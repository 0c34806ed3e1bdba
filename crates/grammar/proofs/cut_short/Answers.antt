-- The law holds.
use Rattle.grammar.proofs.Places.{cut_short}
use Rattle.grammar.proofs.cut_short.Goals as goal

pub returns : goal.returns
returns c = cut_short
