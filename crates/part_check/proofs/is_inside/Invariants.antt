-- Runs of plain octets and pairs are passed; where neither stands before the end, the part is no inside.
use Prim.Native.Nat.{◌-◌}
use Rattle.part_check.proofs.InsideUpTo.{InsideUpTo}
use Rattle.part_check.proofs.is_inside.Given as goal

abbrev pub invariant-loop-c : goal.invariant-loop-c
invariant-loop-c l = InsideUpTo l.s l.initial.c.at.0 l.c.at.0 l.e

abbrev pub decreases-loop-c : goal.decreases-loop-c
decreases-loop-c l = l.e - l.c.at.0
