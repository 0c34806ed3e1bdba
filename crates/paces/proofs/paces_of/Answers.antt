-- Behind the two tests the number is near zero, so that its steps fit, whichever way they go.
use Rattle.paces.proofs.FromZero.{far_below, far_above, backward, forward, steps_fit, steps_cast, goes}
use Rattle.paces.proofs.paces_of.Goals as goal

pub returns-then-n : goal.returns-then-n
returns-then-n c = far_below c.ranges.n c.if-n.true

pub returns-then-n-gt-MOST : goal.returns-then-n-gt-MOST
returns-then-n-gt-MOST c = far_above c.ranges.n c.if-n-gt-MOST.true

pub overflow_sub-result : goal.overflow_sub-result
overflow_sub-result c =
    steps_fit (backward c.ranges.n c.if-n.false c.if-n-gt-MOST.false c.if-n-lt0.true)

pub overflow_cast-result : goal.overflow_cast-result
overflow_cast-result c =
    steps_cast (backward c.ranges.n c.if-n.false c.if-n-gt-MOST.false c.if-n-lt0.true)

pub returns-then-n-lt0 : goal.returns-then-n-lt0
returns-then-n-lt0 c =
    goes (backward c.ranges.n c.if-n.false c.if-n-gt-MOST.false c.if-n-lt0.true)

pub overflow_cast-result-2 : goal.overflow_cast-result-2
overflow_cast-result-2 c =
    steps_cast (forward c.ranges.n c.if-n.false c.if-n-gt-MOST.false c.if-n-lt0.false)

pub returns : goal.returns
returns c =
    goes (forward c.ranges.n c.if-n.false c.if-n-gt-MOST.false c.if-n-lt0.false)
