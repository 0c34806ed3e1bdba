-- The law holds.
use Rattle.utf8.proofs.EncodesNumbers.{encodes_numbers}
use Rattle.utf8.proofs.encodes_numbers.Goals as goal

pub returns : goal.returns
returns c = encodes_numbers
