-- One slot at each turn.
use Prim.Native.Nat.{ℕ, ◌-◌}
use Rattle.notes.proofs.Mapped.{PutSoFar}
use Rattle.notes.proofs.copy.Given as goal

abbrev pub invariant-loop-k : goal.invariant-loop-k
invariant-loop-k l = PutSoFar (λ (n : ℕ). n) l.notes l.count l.initial.slots 0 l.slots l.k

abbrev pub decreases-loop-k : goal.decreases-loop-k
decreases-loop-k l = l.count - l.k
