-- The law holds.
use Rattle.catalogues.proofs.Examples.{examples_hold}
use Rattle.catalogues.proofs.examples_hold.Goals as goal

pub returns : goal.returns
returns c = examples_hold
