-- The loop skips octets of the one kind, and stops at the first of the other kind or at the end.
-- where the branch's ways meet, the octet meant stands at p
use Prim.Native.Nat.{◌-◌}
use Rattle.runs.proofs.Skipping.{Skipping, skip}
use Rattle.runs.proofs.skip.Given as goal

abbrev pub invariant-loop-k : goal.invariant-loop-k
invariant-loop-k l = Skipping l.spaces l.s l.e.0 l.initial.k.0 l.k.0

abbrev pub decreases-loop-k : goal.decreases-loop-k
decreases-loop-k l = l.e.0 - l.k.0
