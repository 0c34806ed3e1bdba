-- The loop passes octets of the set, and stops at the first that is none or at the end.
use native.Mathlib.Omega.{arith}
use mathlib.Core.Path.{refl, sym, ◌∙◌}
use Rattle.octet_classes.specs.Sets.{is_in}
use Rattle.cursor.proofs.RunSoFar.{begin, more, at_its_end, stop}
use Rattle.cursor.proofs.Cursor.past.Goals as goal

pub loop-i-init : goal.loop-i-init
loop-i-init c = (refl, begin c.requires)

pub loop-i-preserved : goal.loop-i-preserved
loop-i-preserved c =
    (omega (arith, c.loop-i.invariant.0), more c.loop-i.invariant.1 c.loop-i-test.true (sym c.is_in.ensures ∙ c.if-not-is_in.false))

pub overflow_add-end : goal.overflow_add-end
overflow_add-end c = omega (arith, c.loop-i.invariant.0, c.loop-i-test.true)

pub returns-then-not-is_in : goal.returns-then-not-is_in
returns-then-not-is_in c =
    rw c.loop-i.invariant.0 (stop c.loop-i.invariant.1 (sym c.is_in.ensures ∙ c.if-not-is_in.true))

pub returns : goal.returns
returns c = rw c.loop-i.invariant.0 (at_its_end c.loop-i.invariant.1 c.loop-i-test.false)
