-- Behind place i the octets are the same; blocks first, then octets.
use Prim.Native.Nat.{◌-◌}
use Rattle.pack_index.proofs.SameEnds.{SameFrom}
use Rattle.pack_index.proofs.are_same.Given as goal

abbrev pub invariant-loop-i : goal.invariant-loop-i
invariant-loop-i l = SameFrom l.u l.v l.i

abbrev pub decreases-loop-i : goal.decreases-loop-i
decreases-loop-i l = l.i

abbrev pub invariant-loop-k : goal.invariant-loop-k
invariant-loop-k l = SameFrom l.u l.v l.k
