-- The block is passed, or nothing is. Assumes nothing.
use Rattle.reference_scan.proofs.Between.{comes_none, comes_here}
use Rattle.reference_scan.proofs.opening.past_first_block.Goals as goal

pub returns-then-q-ne5 : goal.returns-then-q-ne5
returns-then-q-ne5 c =
    comes_here c.judged_up_to.result c.judged_up_to.ensures (comes_none c.args.q c.requires)

pub returns-then-s-i-lt16 : goal.returns-then-s-i-lt16
returns-then-s-i-lt16 c =
    comes_here c.judged_up_to-then-s-i-lt16.result c.judged_up_to-then-s-i-lt16.ensures (comes_none c.args.q c.requires)

pub returns-then-behind-eq5 : goal.returns-then-behind-eq5
returns-then-behind-eq5 c =
    comes_here c.judged_up_to-then-behind-eq5.result c.judged_up_to-then-behind-eq5.ensures (comes_none c.args.q c.requires)

pub returns : goal.returns
returns c =
    rw c.if-q-ne5.false
    (comes_here c.judged_up_to-2.result c.judged_up_to-2.ensures (c.state_behind-behind.ensures c.if-behind-eq5.false))
