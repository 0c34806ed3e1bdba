-- The loop passes triples and runs of target octets; each return says why it ended there.
use Prim.Native.Nat.{◌-◌}
use lib.ListN.{length}
use Rattle.scan_parts.proofs.TargetSoFar.{TargetSoFar}
use Rattle.scan_parts.proofs.target.past_units.Given as goal

abbrev pub invariant-loop-c : goal.invariant-loop-c
invariant-loop-c l = TargetSoFar l.s l.initial.c.at.0 l.c.at.0

abbrev pub decreases-loop-c : goal.decreases-loop-c
decreases-loop-c l = length l.s - l.c.at.0
