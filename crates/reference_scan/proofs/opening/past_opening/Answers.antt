-- The opening is passed, or nothing is. Assumes nothing.
use native.Mathlib.Omega.{arith}
use Rattle.reference_scan.proofs.Between.{comes_none, comes_here}
use Rattle.reference_scan.proofs.opening.past_opening.Goals as goal

pub returns-then-q-ne0 : goal.returns-then-q-ne0
returns-then-q-ne0 c =
    comes_here c.judged_up_to.result c.judged_up_to.ensures (comes_none c.args.q c.requires)

pub overflow_add-i : goal.overflow_add-i
overflow_add-i c = let passed = c.sees_root.ensures c.if-sees_root.true in omega (arith, passed.inside)

pub returns-then-sees_root : goal.returns-then-sees_root
returns-then-sees_root c =
    rw c.if-q-ne0.false
    (comes_here c.judged_up_to-then-sees_root.result c.judged_up_to-then-sees_root.ensures (c.sees_root.ensures c.if-sees_root.true))

pub returns-then-s-i-lt8 : goal.returns-then-s-i-lt8
returns-then-s-i-lt8 c =
    comes_here c.judged_up_to-then-s-i-lt8.result c.judged_up_to-then-s-i-lt8.ensures (comes_none c.args.q c.requires)

pub returns-then-n-eq0 : goal.returns-then-n-eq0
returns-then-n-eq0 c =
    comes_here c.judged_up_to-then-n-eq0.result c.judged_up_to-then-n-eq0.ensures (comes_none c.args.q c.requires)

pub overflow_add-i-2 : goal.overflow_add-i-2
overflow_add-i-2 c = let passed = c.opening-n.ensures c.if-n-eq0.false in omega (arith, passed.inside)

pub returns : goal.returns
returns c =
    rw c.if-q-ne0.false
    (comes_here c.judged_up_to-2.result c.judged_up_to-2.ensures (c.opening-n.ensures c.if-n-eq0.false))
