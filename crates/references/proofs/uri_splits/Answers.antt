-- The law holds.
use Rattle.references.proofs.Splitting.{uris_split}
use Rattle.references.proofs.uri_splits.Goals as goal

pub returns : goal.returns
returns c = uris_split
