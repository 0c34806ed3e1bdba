-- What is left of the run compares with what is left of q as the run does with q, at each turn.
-- where the branch's ways meet, the octet meant stands at p
use Prim.Native.Nat.{◌-◌}
use Rattle.runs.proofs.Matching.{Matching}
use Rattle.runs.proofs.match_run.Given as goal

abbrev pub invariant-loop-k : goal.invariant-loop-k
invariant-loop-k l = Matching l.s l.e.0 l.initial.k.0 l.q l.i l.k.0

abbrev pub decreases-loop-k : goal.decreases-loop-k
decreases-loop-k l = l.e.0 - l.k.0
