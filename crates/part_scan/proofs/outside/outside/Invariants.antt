-- The loop stands outside of targets, behind all that it passed.
use Prim.Native.Nat.{◌-◌}
use lib.ListN.{length}
use Rattle.octets.specs.Editions.{further}
use Rattle.part_scan.proofs.Stepping.{OutSoFar}
use Rattle.part_scan.proofs.outside.outside.Given as goal

abbrev pub invariant-loop-last : goal.invariant-loop-last
invariant-loop-last l = OutSoFar (further l.edition) l.s l.initial.phase l.initial.c.at.0 l.phase l.c.at.0

abbrev pub decreases-loop-last : goal.decreases-loop-last
decreases-loop-last l = length l.s - l.c.at.0
