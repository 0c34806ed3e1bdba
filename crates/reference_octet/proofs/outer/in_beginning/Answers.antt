-- Each state has its function. Assumes nothing.
use native.Mathlib.Omega.{arith}
use mathlib.Core.Path.{◌≡◌}
use Rattle.reference_steps.specs.Machine.{step}
use Rattle.reference_octet.proofs.outer.in_beginning.Goals as goal

pub returns-in-0 : goal.returns-in-0
unfolding step
returns-in-0 c = rw c.in-0.is c.at_start.ensures

pub returns-in-1 : goal.returns-in-1
unfolding step
returns-in-1 c = rw c.in-1.is (cc)

pub returns-in-2 : goal.returns-in-2
unfolding step
returns-in-2 c = rw c.in-2.is c.first_segment-in-2.ensures

pub returns-in-3 : goal.returns-in-3
unfolding step
returns-in-3 c = rw c.in-3.is (cc)

pub returns-in_default : goal.returns-in_default
unfolding step
returns-in_default c =
    let last : c.args.q ≡ 4 = omega arith in rw (last, c.pick-in_default.ensures, c.in_path-in_default.ensures)
