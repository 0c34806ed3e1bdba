-- The rows hold.
use Rattle.references.proofs.Rows.{rows_hold}
use Rattle.references.proofs.rows_hold.Goals as goal

pub returns : goal.returns
returns c = rows_hold
