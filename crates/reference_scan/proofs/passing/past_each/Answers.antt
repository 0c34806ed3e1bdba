-- The loop passes octets of the run. Assumes nothing.
use Prim.Native.Nat.{◌-◌}
use mathlib.Core.Path.{sym, ◌∙◌}
use Rattle.reference_scan.proofs.Runs.{passed_none, passed_more}
use Rattle.reference_scan.proofs.passing.past_each.Goals as goal

pub loop-i-init : goal.loop-i-init
loop-i-init c = passed_none c.requires

pub loop-i-preserved : goal.loop-i-preserved
loop-i-preserved c =
    passed_more c.loop-i.invariant c.loop-i-test.true
    (sym c.is_in_run.ensures ∙ c.if-is_in_run.true)

pub returns-else-is_in_run : goal.returns-else-is_in_run
returns-else-is_in_run c = c.loop-i.invariant

pub returns-after-loop-i : goal.returns-after-loop-i
returns-after-loop-i c = c.loop-i.invariant
