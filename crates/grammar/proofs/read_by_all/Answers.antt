-- The law holds.
use Rattle.grammar.proofs.Editions.{reading_alike}
use Rattle.grammar.proofs.read_by_all.Goals as goal

pub returns : goal.returns
returns c = λ extra s K r. reading_alike extra r
