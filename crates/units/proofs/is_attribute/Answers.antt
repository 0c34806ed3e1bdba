-- A token octet that is none of three, as the definition lists them, by one test at each octet. Assumes nothing.
use native.Mathlib.Omega.{arith}
use mathlib.Core.Path.{refl}
use mathlib.Core.Bool.{not, ◌&&◌}
use lib.Dec.{eqb}
use Rattle.octets.specs.Sets.{is_token, is_letter, is_digit}
use Rattle.octets.proofs.Octets.{alike}
use Rattle.extended.specs.Value.{is_attribute}
use Rattle.units.proofs.is_attribute.Goals as goal

pub returns : goal.returns
unfolding is_attribute is_token is_letter is_digit
returns c =
    rw c.is_in.ensures
    (alike (λ k. is_token k && not (eqb k 42) && not (eqb k 39) && not (eqb k 37)) is_attribute refl c.args.c (omega arith))
