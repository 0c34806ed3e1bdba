-- The machine has come from the start to the place where the loop stands. Assumes nothing.
use Prim.Native.Nat.{◌-◌}
use lib.ListN.{length}
use Rattle.reference_scan.specs.Comes.{Comes}
use Rattle.reference_scan.proofs.walking.walk.Given as goal

abbrev pub invariant-loop-i : goal.invariant-loop-i
invariant-loop-i l = Comes l.s l.initial.i l.initial.q l.i l.q

abbrev pub decreases-loop-i : goal.decreases-loop-i
decreases-loop-i l = length l.s - l.i
