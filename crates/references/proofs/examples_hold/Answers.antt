-- The examples hold.
use Rattle.references.proofs.Rows.{examples_hold}
use Rattle.references.proofs.examples_hold.Goals as goal

pub returns : goal.returns
returns c = examples_hold
