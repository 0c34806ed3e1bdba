-- A target's octets without three of them, by one test at each octet. Assumes nothing.
use native.Mathlib.Omega.{arith}
use mathlib.Core.Path.{refl}
use mathlib.Core.Bool.{not, ◌&&◌}
use lib.Dec.{eqb}
use Rattle.octets.specs.Sets.{is_target, is_letter, is_digit}
use Rattle.octets.proofs.Octets.{alike}
use Rattle.reference_sets.specs.Sets.{is_path}
use Rattle.reference_sets.proofs.sets.is_path.Goals as goal

pub returns : goal.returns
unfolding is_target is_letter is_digit
returns c =
    rw c.is_in.ensures
    (alike (λ k. is_target k && not (eqb k 35) && not (eqb k 91) && not (eqb k 93)) is_path refl c.args.c (omega arith))
