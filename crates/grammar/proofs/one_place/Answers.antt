-- The law holds.
use Rattle.grammar.proofs.Places.{one_place}
use Rattle.grammar.proofs.one_place.Goals as goal

pub returns : goal.returns
returns c = one_place
