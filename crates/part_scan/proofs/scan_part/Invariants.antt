-- Each move leads on from what has been passed.
use Prim.Native.Nat.{◌-◌}
use lib.ListN.{length}
use Rattle.octets.specs.Editions.{further}
use Rattle.part_scan.proofs.Moves.{SoFar}
use Rattle.part_scan.proofs.scan_part.Given as goal

abbrev pub invariant-loop-last : goal.invariant-loop-last
invariant-loop-last l = SoFar (further l.edition) l.part l.base l.initial.spot l.spot l.c.at.0

abbrev pub decreases-loop-last : goal.decreases-loop-last
decreases-loop-last l = length l.part - l.c.at.0
