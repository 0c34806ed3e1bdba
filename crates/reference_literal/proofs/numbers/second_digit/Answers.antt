-- The tests are those of the definition, in its order. Assumes nothing.
use Rattle.reference_literal.proofs.numbers.second_digit.Goals as goal

pub returns : goal.returns
returns c = cc
