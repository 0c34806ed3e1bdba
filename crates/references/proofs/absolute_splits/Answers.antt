-- The law holds.
use Rattle.references.proofs.Splitting.{absolutes_split}
use Rattle.references.proofs.absolute_splits.Goals as goal

pub returns : goal.returns
returns c = absolutes_split
