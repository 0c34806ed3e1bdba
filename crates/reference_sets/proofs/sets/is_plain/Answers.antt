-- The octets of a path or a query without four of them, by one test at each octet. Assumes nothing.
use native.Mathlib.Omega.{arith}
use mathlib.Core.Path.{refl}
use mathlib.Core.Bool.{not, ◌&&◌}
use lib.Dec.{eqb}
use Rattle.octets.proofs.Octets.{alike}
use Rattle.reference_steps.specs.Machine.{plain}
use Rattle.reference_sets.specs.Sets.{of, is_path}
use Rattle.reference_sets.proofs.sets.is_plain.Goals as goal

pub returns : goal.returns
returns c =
    rw c.is_path.ensures
    (alike (λ k. is_path k && not (eqb k 58) && not (eqb k 64) && not (eqb k 47) && not (eqb k 63)) (λ k. plain (of k)) refl
    c.args.c (omega arith))
