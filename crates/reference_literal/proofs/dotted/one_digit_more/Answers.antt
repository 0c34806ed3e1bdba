-- A number is small, so that the sum doesn't wrap. Assumes nothing.
use native.Mathlib.Omega.{arith}
use Rattle.reference_sets.specs.Sets.{of}
use Rattle.reference_literal.proofs.Digits.{number_small}
use Rattle.reference_literal.proofs.dotted.one_digit_more.Goals as goal

pub overflow_add-n-2 : goal.overflow_add-n-2
overflow_add-n-2 c = omega (arith, c.number-u.ensures, number_small (of c.args.c) c.args.t)

pub returns : goal.returns
returns c = rw (c.pick.ensures, c.number-u.ensures)
