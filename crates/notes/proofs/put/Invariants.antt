-- One number at each turn.
use Prim.Native.Nat.{◌-◌}
use Rattle.notes.specs.Noted.{low}
use Rattle.notes.proofs.Mapped.{PutSoFar}
use Rattle.notes.proofs.put.Given as goal

abbrev pub invariant-loop-k : goal.invariant-loop-k
invariant-loop-k l = PutSoFar low l.numbers l.k-end l.initial.notes l.at l.notes l.k

abbrev pub decreases-loop-k : goal.decreases-loop-k
decreases-loop-k l = l.k-end - l.k
