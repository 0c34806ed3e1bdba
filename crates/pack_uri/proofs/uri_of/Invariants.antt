-- The loop stands before a line; so many lines are left before the pack's.
use Prim.Native.Nat.{◌-◌}
use lib.ListN.{length}
use Rattle.pack_uri.proofs.ByLine.{SoFar}
use Rattle.pack_uri.proofs.uri_of.Given as goal

abbrev pub invariant-loop-at : goal.invariant-loop-at
invariant-loop-at l = SoFar l.s l.initial.left l.left l.at

abbrev pub decreases-loop-at : goal.decreases-loop-at
decreases-loop-at l = length l.s - l.at
