-- What is dropped, what is counted and what is left make the whole at each turn.
use Prim.Native.Nat.{◌-◌}
use Rattle.shape.proofs.DroppedUpTo.{DroppedUpTo}
use Rattle.shape.proofs.quoted_len.Given as goal

abbrev pub invariant-loop-k : goal.invariant-loop-k
invariant-loop-k l = DroppedUpTo l.s l.e.0 l.initial.k.0 l.dropped l.tokens l.k.0

abbrev pub decreases-loop-k : goal.decreases-loop-k
decreases-loop-k l = l.e.0 - l.k.0
