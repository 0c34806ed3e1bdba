-- The tests are those of the definition, in its order. Assumes nothing.
use Rattle.reference_steps.specs.Machine.{step}
use Rattle.reference_sets.proofs.Has.{hex_has}
use Rattle.reference_literal.proofs.literals.in_version.Goals as goal

pub returns : goal.returns
unfolding step
returns c =
    rw (c.pick-2.ensures, c.pick.ensures, c.is_in.ensures, hex_has c.args.c)
