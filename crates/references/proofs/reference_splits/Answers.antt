-- The law holds.
use Rattle.references.proofs.Splitting.{references_split}
use Rattle.references.proofs.reference_splits.Goals as goal

pub returns : goal.returns
returns c = references_split
