-- Runs and triples, one behind another, keep the state. Assumes nothing.
use Prim.Native.Nat.{◌-◌}
use native.Mathlib.Omega.{arith}
use borrow.Author.Rules.{rules}
use Rattle.reference_scan.proofs.Runs.{passed_within}
use Rattle.reference_scan.proofs.Between.{comes_then, comes_kept}
use Rattle.reference_scan.proofs.Commons.{both_keep}
use Rattle.reference_scan.proofs.passing.past_units.Goals as goal

pub past_path-i-requires : goal.past_path-i-requires
past_path-i-requires c = (c.requires.0)

pub loop-i-init : goal.loop-i-init
loop-i-init c = comes_kept (passed_within (both_keep _ c.requires.1) c.past_path-i.ensures)

pub sees_triple-requires : goal.sees_triple-requires
sees_triple-requires c = (c.loop-i.invariant.inside, c.requires.1)

pub overflow_add-i : goal.overflow_add-i
overflow_add-i c = omega (arith, (c.sees_triple.ensures c.loop-i-test.true).0)

pub past_path-i-requires-in-loop-i : goal.past_path-i-requires-in-loop-i
past_path-i-requires-in-loop-i c = ((c.sees_triple.ensures c.loop-i-test.true).0)

pub loop-i-smaller : goal.loop-i-smaller
loop-i-smaller c =
    omega (arith, (c.sees_triple.ensures c.loop-i-test.true).0, c.past_path-i-in-loop-i.ensures.forward, c.past_path-i-in-loop-i.ensures.inside)

pub loop-i-preserved : goal.loop-i-preserved
loop-i-preserved c =
    comes_then c.loop-i.invariant
    (comes_then (c.sees_triple.ensures c.loop-i-test.true).1
    (comes_kept (passed_within (both_keep _ c.requires.1) c.past_path-i-in-loop-i.ensures)))

pub returns : goal.returns
returns c = c.loop-i.invariant
