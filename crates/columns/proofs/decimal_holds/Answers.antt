-- The laws hold.
use Rattle.columns.proofs.Decimal.{decimal_holds}
use Rattle.columns.proofs.decimal_holds.Goals as goal

pub returns : goal.returns
returns c = decimal_holds
