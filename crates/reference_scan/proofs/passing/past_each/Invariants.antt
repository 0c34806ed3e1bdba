-- The loop passes octets of the run. Assumes nothing.
use Prim.Native.Nat.{◌-◌}
use lib.ListN.{length}
use Rattle.reference_sets.specs.Runs.{in_run}
use Rattle.reference_scan.specs.Passed.{Passed}
use Rattle.reference_scan.proofs.passing.past_each.Given as goal

abbrev pub invariant-loop-i : goal.invariant-loop-i
invariant-loop-i l = Passed (in_run l.run) l.s l.initial.i l.i

abbrev pub decreases-loop-i : goal.decreases-loop-i
decreases-loop-i l = length l.s - l.i
