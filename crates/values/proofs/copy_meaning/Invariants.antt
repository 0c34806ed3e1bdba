-- What is put already and what is left to put make the whole meaning at each turn.
-- where the branch's ways meet, the octet meant stands at p
use Prim.Native.Nat.{◌-◌, ◌≤◌}
use Rattle.kinds.proofs.Putting.{Putting}
use Rattle.values.specs.Rest.{rest}
use Rattle.values.proofs.copy_meaning.Given as goal

abbrev pub invariant-loop-k : goal.invariant-loop-k
invariant-loop-k l =
    (l.k.0 ≤ l.e.0) × Putting l.initial.out l.initial.to.0 (rest l.s l.e.0 l.initial.k.0) l.out l.to.0 (rest l.s l.e.0 l.k.0)

abbrev pub decreases-loop-k : goal.decreases-loop-k
decreases-loop-k l = l.e.0 - l.k.0
