-- The loop adds one pack at a time.
use Prim.Native.Nat.{◌-◌}
use Rattle.catalogue_check.proofs.LineByLine.{SoFar}
use Rattle.catalogue_check.proofs.check.Given as goal

abbrev pub invariant-loop-at : goal.invariant-loop-at
invariant-loop-at l =
    SoFar l.s l.initial.links l.initial.params l.initial.index l.links l.params l.index l.count l.at

abbrev pub decreases-loop-at : goal.decreases-loop-at
decreases-loop-at l = l.n - l.at
