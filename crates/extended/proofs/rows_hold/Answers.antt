-- The rows hold.
use Rattle.extended.proofs.Rows.{rows_hold}
use Rattle.extended.proofs.rows_hold.Goals as goal

pub returns : goal.returns
returns c = rows_hold
