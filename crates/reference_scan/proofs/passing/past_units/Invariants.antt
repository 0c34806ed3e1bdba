-- Runs and triples, one behind another, keep the state. Assumes nothing.
use Prim.Native.Nat.{◌-◌}
use lib.ListN.{length}
use Rattle.reference_scan.specs.Comes.{Comes}
use Rattle.reference_scan.proofs.passing.past_units.Given as goal

abbrev pub invariant-loop-i : goal.invariant-loop-i
invariant-loop-i l = Comes l.s l.from l.q l.i l.q

abbrev pub decreases-loop-i : goal.decreases-loop-i
decreases-loop-i l = length l.s - l.i
