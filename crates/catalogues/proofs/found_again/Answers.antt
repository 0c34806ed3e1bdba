-- The law holds.
use Rattle.catalogues.proofs.FoundAgain.{found_again}
use Rattle.catalogues.proofs.found_again.Goals as goal

pub returns : goal.returns
returns c = found_again
