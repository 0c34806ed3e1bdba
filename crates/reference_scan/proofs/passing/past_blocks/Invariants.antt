-- One block behind another. Assumes nothing.
use Prim.Native.Nat.{◌-◌}
use lib.ListN.{length}
use Rattle.reference_sets.specs.Sets.{is_path}
use Rattle.reference_scan.specs.Passed.{Passed}
use Rattle.reference_scan.proofs.passing.past_blocks.Given as goal

abbrev pub invariant-loop-i : goal.invariant-loop-i
invariant-loop-i l = Passed is_path l.s l.initial.i l.i

abbrev pub decreases-loop-i : goal.decreases-loop-i
decreases-loop-i l = length l.s - l.i
