-- The rows hold.
use Rattle.references.proofs.Rows.{addresses_hold}
use Rattle.references.proofs.addresses_hold.Goals as goal

pub returns : goal.returns
returns c = addresses_hold
