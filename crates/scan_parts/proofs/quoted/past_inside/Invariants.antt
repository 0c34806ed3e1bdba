-- The loop passes pairs and runs of plain octets; each return says why it ended there.
use Prim.Native.Nat.{◌-◌}
use lib.ListN.{length}
use Rattle.scan_parts.proofs.InsideSoFar.{InsideSoFar}
use Rattle.scan_parts.proofs.quoted.past_inside.Given as goal

abbrev pub invariant-loop-c : goal.invariant-loop-c
invariant-loop-c l = InsideSoFar l.s l.initial.c.at.0 l.c.at.0

abbrev pub decreases-loop-c : goal.decreases-loop-c
decreases-loop-c l = length l.s - l.c.at.0
