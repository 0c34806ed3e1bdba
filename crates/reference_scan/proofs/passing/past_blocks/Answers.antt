-- One block behind another. Assumes nothing.
use Prim.Native.Nat.{◌-◌}
use native.Mathlib.Omega.{arith}
use mathlib.Core.Path.{sym, ◌∙◌}
use Rattle.cursor.proofs.AllInBlock.{all_passed}
use Rattle.reference_scan.specs.Common.{is_common}
use Rattle.reference_scan.proofs.Runs.{passed_none, passed_then, passed_run, passed_within}
use Rattle.reference_scan.proofs.Commons.{common_path}
use Rattle.reference_scan.proofs.passing.past_blocks.Goals as goal

pub loop-i-init : goal.loop-i-init
loop-i-init c = passed_none c.requires

pub loop-i-preserved : goal.loop-i-preserved
loop-i-preserved c =
    let at = c.loop-i in
    passed_then at.invariant
    (passed_within common_path
    (passed_run
    (all_passed is_common _ at.i 16 (omega (arith, c.loop-i-test.true)) (sym c.all_common.ensures ∙ c.if-all_common.true))))

pub returns-else-all_common : goal.returns-else-all_common
returns-else-all_common c = c.loop-i.invariant

pub returns-after-loop-i : goal.returns-after-loop-i
returns-after-loop-i c = c.loop-i.invariant
