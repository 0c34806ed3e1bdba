-- One block behind another. Assumes nothing.
use native.Mathlib.Omega.{arith}
use mathlib.Core.Path.{sym, ◌∙◌}
use Rattle.cursor.proofs.RunSoFar.{begin, further}
use Rattle.cursor.proofs.AllInBlock.{all_passed}
use Rattle.blocks.specs.Others.{other_than}
use Rattle.blocks.proofs.past_blocks_without.Goals as goal

pub loop-i-init : goal.loop-i-init
loop-i-init g c = begin c.requires

pub loop-i-preserved : goal.loop-i-preserved
loop-i-preserved g c =
    let at = c.loop-i in
    further at.invariant
    (all_passed (other_than g.row.C) _ at.i 16 (omega (arith, c.loop-i-test.true)) (sym c.none_is.ensures ∙ c.if-none_is.true))

pub returns-else-none_is : goal.returns-else-none_is
returns-else-none_is g c = c.loop-i.invariant

pub returns-after-loop-i : goal.returns-after-loop-i
returns-after-loop-i g c = c.loop-i.invariant
