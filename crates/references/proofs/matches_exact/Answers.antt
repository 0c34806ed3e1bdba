-- The law holds.
use Rattle.rules.proofs.Lefts.{matches_exact}
use Rattle.references.specs.Octets.{Octets}
use Rattle.references.proofs.matches_exact.Goals as goal

pub returns : goal.returns
returns c = matches_exact Octets
