-- The machine has come from the start to the place where the loop stands. Assumes nothing.
use Prim.Native.Nat.{◌-◌}
use native.Mathlib.Omega.{arith}
use mathlib.Core.Path.{sym, ◌∙◌}
use borrow.Author.Rules.{rules}
use Rattle.reference_scan.proofs.Between.{comes_none, comes_then, comes_step, judged_here}
use Rattle.reference_scan.proofs.Closes.{closes}
use Rattle.reference_scan.proofs.walking.walk.Goals as goal

pub loop-i-init : goal.loop-i-init
loop-i-init c = comes_none c.args.state c.requires

pub past_run-i-requires : goal.past_run-i-requires
past_run-i-requires c = (c.loop-i.invariant.inside)

pub returns-then-i-s : goal.returns-then-i-s
returns-then-i-s c =
    judged_here c.judged_up_to.result c.judged_up_to.ensures
    (comes_then c.loop-i.invariant c.past_run-i.ensures)
    (λ l. absurd (omega (arith, c.if-i-s.true)))

pub bounds-s-i : goal.bounds-s-i
bounds-s-i c = omega (arith, c.if-i-s.false, c.past_run-i.ensures.inside)

pub returns-then-c-eq62 : goal.returns-then-c-eq62
returns-then-c-eq62 c =
    judged_here c.judged_up_to-then-c-eq62.result c.judged_up_to-then-c-eq62.ensures
    (comes_then c.loop-i.invariant c.past_run-i.ensures)
    (λ l. rw c.if-c-eq62.true (closes c.loop-i.q))

pub returns-then-n-eq-NOWHERE : goal.returns-then-n-eq-NOWHERE
returns-then-n-eq-NOWHERE c =
    judged_here c.judged_up_to-then-n-eq-NOWHERE.result c.judged_up_to-then-n-eq-NOWHERE.ensures
    (comes_then c.loop-i.invariant c.past_run-i.ensures)
    (λ l. sym c.next-n.ensures ∙ c.if-n-eq-NOWHERE.true)

pub overflow_add-i : goal.overflow_add-i
overflow_add-i c = omega (arith, c.if-i-s.false, c.past_run-i.ensures.inside)

pub loop-i-smaller : goal.loop-i-smaller
loop-i-smaller c =
    let passed = c.past_run-i.ensures in
    omega (arith, c.if-i-s.false, passed.inside, passed.forward)

pub loop-i-preserved : goal.loop-i-preserved
loop-i-preserved c =
    let passed = c.past_run-i.ensures in
    comes_then (comes_then c.loop-i.invariant passed)
    (comes_step (omega (arith, c.if-i-s.false, passed.inside)) c.next-n.ensures c.if-n-eq-NOWHERE.false)
