-- Each state has its function. Assumes nothing.
use native.Mathlib.Omega.{arith}
use mathlib.Core.Path.{◌≡◌}
use Rattle.reference_steps.specs.Machine.{step}
use Rattle.reference_octet.proofs.outer.outer.Goals as goal

pub returns-then-q-eq13 : goal.returns-then-q-eq13
unfolding step
returns-then-q-eq13 c = rw c.if-q-eq13.true c.in_path.ensures

pub returns-then-q-eq15 : goal.returns-then-q-eq15
unfolding step
returns-then-q-eq15 c = rw c.if-q-eq15.true c.in_fragment.ensures

pub returns : goal.returns
unfolding step
returns c =
    let last : c.args.q ≡ 14 = omega (arith, c.requires) in rw last
