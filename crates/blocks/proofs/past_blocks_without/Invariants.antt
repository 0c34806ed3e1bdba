-- One block behind another. Assumes nothing.
use Prim.Native.Nat.{◌-◌}
use lib.ListN.{length}
use Rattle.cursor.proofs.RunSoFar.{RunSoFar}
use Rattle.blocks.specs.Others.{other_than}
use Rattle.blocks.proofs.past_blocks_without.Given as goal

abbrev pub invariant-loop-i : goal.invariant-loop-i
invariant-loop-i g l = RunSoFar (other_than g.row.C) l.s l.initial.i l.i

abbrev pub decreases-loop-i : goal.decreases-loop-i
decreases-loop-i g l = length l.s - l.i
