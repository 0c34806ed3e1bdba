-- The tests are those of the definition, in its order. Assumes nothing.
use Rattle.reference_literal.proofs.numbers.number.Goals as goal

pub returns : goal.returns
returns c =
    rw (
      c.pick-2.ensures,
      c.pick.ensures,
      c.later_digit.ensures,
      c.first_digit.ensures,
      c.is_digit.ensures,
    )
