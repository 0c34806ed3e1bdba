-- The law holds.
use Rattle.rules.proofs.Lefts.{matches_exact}
use Rattle.utf8.specs.Sequences.{Range}
use Rattle.utf8.proofs.matches_exact.Goals as goal

pub returns : goal.returns
returns c = matches_exact Range
