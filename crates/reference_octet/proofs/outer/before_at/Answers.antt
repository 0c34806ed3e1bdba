-- Each state has its function. Assumes nothing.
use native.Mathlib.Omega.{arith}
use mathlib.Core.Path.{◌≡◌}
use Rattle.reference_steps.specs.Machine.{step}
use Rattle.reference_octet.proofs.outer.before_at.Goals as goal

pub returns-in-5 : goal.returns-in-5
unfolding step
returns-in-5 c = rw c.in-5.is (cc)

pub returns-in-6 : goal.returns-in-6
unfolding step
returns-in-6 c = rw c.in-6.is c.in_authority-in-6.ensures

pub returns-in-7 : goal.returns-in-7
unfolding step
returns-in-7 c = rw c.in-7.is c.in_port_or_user.ensures

pub returns-in_default : goal.returns-in_default
unfolding step
returns-in_default c =
    let last : c.args.q ≡ 8 = omega arith in rw last c.in_user.ensures
