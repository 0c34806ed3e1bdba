-- The loop has passed backslashes only.
use Rattle.bare.proofs.Passing.{none_passed, pass, passed, all_passed}
use Rattle.bare.proofs.past.Goals as goal

pub loop-i-init : goal.loop-i-init
loop-i-init c = none_passed _ _ _ c.requires.ordered

pub returns-then-s-i-ne92 : goal.returns-then-s-i-ne92
returns-then-s-i-ne92 c = passed c.loop-i.invariant (λ _. c.if-s-i-ne92.true)

pub loop-i-preserved : goal.loop-i-preserved
loop-i-preserved c =
    pass c.loop-i.invariant c.loop-i-test.true c.requires.inside c.if-s-i-ne92.false

pub returns : goal.returns
returns c = all_passed c.loop-i.invariant c.loop-i-test.false
