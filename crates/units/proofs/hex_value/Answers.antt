-- By one test at each octet.
use Rattle.units.proofs.Digits.{hex_number}
use Rattle.units.proofs.hex_value.Goals as goal

pub returns : goal.returns
returns c = hex_number c.args.c c.requires
