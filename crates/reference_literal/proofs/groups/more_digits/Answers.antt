-- The tests are those of the definition, in its order. Assumes nothing.
use Rattle.reference_literal.proofs.groups.more_digits.Goals as goal

pub returns : goal.returns
returns c =
    rw (c.pick.ensures, c.later_digit.ensures, c.first_digit.ensures)
