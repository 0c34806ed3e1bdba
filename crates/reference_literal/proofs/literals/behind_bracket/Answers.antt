-- The tests are those of the definition, in its order. Assumes nothing.
use Rattle.reference_sets.proofs.Has.{hex_has, vee_has}
use Rattle.reference_steps.specs.Machine.{step}
use Rattle.reference_literal.proofs.literals.behind_bracket.Goals as goal

pub returns : goal.returns
unfolding step
returns c =
    rw (
      c.pick-2.ensures,
      c.pick.ensures,
      c.pick-group.ensures,
      c.more_digits.ensures,
      c.is_in.ensures,
      hex_has c.args.c,
      vee_has c.args.c,
    )
