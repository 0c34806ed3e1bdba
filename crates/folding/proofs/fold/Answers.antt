-- `fold` meets its contract. A letter is at most 90, so the sum fits. Assumes nothing.
use native.Mathlib.Omega.{arith}
use Rattle.octets.specs.Fold.{fold}
use Rattle.octets.proofs.Octets.{between_bounds}
use Rattle.folding.proofs.fold.Goals as goal

pub overflow_add-result : goal.overflow_add-result
overflow_add-result c = omega (arith, (between_bounds 65 90 c.args.c c.if-c.true).1)

pub returns-then-c : goal.returns-then-c
unfolding fold
returns-then-c c = rw c.if-c.true

pub returns-else-c : goal.returns-else-c
unfolding fold
returns-else-c c = rw c.if-c.false
