-- The tests are those of the definition, in its order. Assumes nothing.
use Rattle.reference_literal.proofs.dotted.dotted_at.Goals as goal

pub returns : goal.returns
returns c =
    rw (
      c.pick-2.ensures,
      c.pick.ensures,
      c.number_ends.ensures,
      c.one_digit_more.ensures,
      c.is_digit.ensures,
    )
