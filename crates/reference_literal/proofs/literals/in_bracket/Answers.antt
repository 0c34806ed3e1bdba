-- Each state has its function. Assumes nothing.
use native.Mathlib.Omega.{arith}
use mathlib.Core.Path.{◌≡◌}
use Rattle.reference_steps.specs.Machine.{step}
use Rattle.reference_sets.proofs.Has.{hex_has}
use Rattle.reference_literal.proofs.literals.in_bracket.Goals as goal

pub returns-in-48 : goal.returns-in-48
unfolding step
returns-in-48 c = rw c.in-48.is c.behind_bracket.ensures

pub returns-in-49 : goal.returns-in-49
unfolding step
returns-in-49 c = rw c.in-49.is c.pick.ensures

pub returns-in-50 : goal.returns-in-50
unfolding step
returns-in-50 c =
    rw (c.in-50.is, c.pick-in-50.ensures, c.is_in.ensures, hex_has c.args.c)

pub returns-in-51 : goal.returns-in-51
unfolding step
returns-in-51 c = rw c.in-51.is c.in_version.ensures

pub returns-in-52 : goal.returns-in-52
unfolding step
returns-in-52 c = rw (c.in-52.is, c.pick-in-52.ensures, c.is_plain.ensures)

pub returns-in_default : goal.returns-in_default
returns-in_default c = let last : c.args.q ≡ 53 = omega arith in rw last c.in_future.ensures
