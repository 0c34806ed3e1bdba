-- No octet before the least place found is outside of the set. Assumes nothing.
use Prim.Native.Nat.{◌+◌, ◌-◌}
use native.Mathlib.Omega.{arith}
use mathlib.Core.Path.{sym, ◌∙◌}
use mathlib.Core.Bool.{true}
use lib.ListN.{get_or}
use Rattle.reference_sets.specs.Sets.{is_path}
use Rattle.reference_scan.proofs.InBlocks.{least_more, byte_small}
use Rattle.reference_scan.proofs.Commons.{common_path}
use Rattle.reference_scan.proofs.Runs.{passed_count}
use Rattle.reference_scan.proofs.blocks.count_common.Goals as goal

pub loop-n-init : goal.loop-n-init
loop-n-init c = (omega arith, omega arith, λ j l m. absurd (omega arith))

pub overflow_mul-is_common : goal.overflow_mul-is_common
overflow_mul-is_common c = omega (arith, byte_small c.is_common.result)

pub overflow_add-is_common : goal.overflow_add-is_common
overflow_add-is_common c = omega (arith, byte_small c.is_common.result, c.loop-n-test.true)

pub loop-n-preserved : goal.loop-n-preserved
loop-n-preserved c = (
  omega (arith, c.loop-n-test.true),
  omega (arith, c.least-first.ensures.0, c.loop-n.invariant.1),
  least_more is_path c.args.s.now c.args.at c.loop-n.first c.loop-n.n c.least-first.result
      c.is_common.result
      c.loop-n.invariant.2
      (λ e. common_path (get_or c.args.s.now (c.args.at + c.loop-n.n) 0) (sym c.is_common.ensures ∙ e))
      c.least-first.ensures.0
      c.least-first.ensures.1,
)

pub returns : goal.returns
returns c =
    let inv = c.loop-n.invariant in
    passed_count c.args.at c.loop-n.first
    (omega (arith, inv.1, c.requires))
    (λ j l. inv.2 j (omega (arith, inv.1, c.loop-n-test.false)) l)
