-- Each state has its function. Assumes nothing.
use native.Mathlib.Omega.{arith}
use mathlib.Core.Path.{◌≡◌}
use Rattle.reference_steps.specs.Machine.{step}
use Rattle.reference_octet.proofs.outer.behind_at.Goals as goal

pub returns-in-9 : goal.returns-in-9
unfolding step
returns-in-9 c = rw c.in-9.is (cc)

pub returns-in-10 : goal.returns-in-10
unfolding step
returns-in-10 c = rw c.in-10.is c.in_host-in-10.ensures

pub returns-in-11 : goal.returns-in-11
unfolding step
returns-in-11 c = rw c.in-11.is (cc)

pub returns-in_default : goal.returns-in_default
unfolding step
returns-in_default c =
    let last : c.args.q ≡ 12 = omega arith in rw last c.port_on.ensures
