-- The loop passes pairs that agree, and the first that doesn't ends it.
use Rattle.folding.proofs.Walking.{AlikeSoFar}
use Rattle.folding.proofs.compare.Given as goal

abbrev pub invariant-loop-i : goal.invariant-loop-i
invariant-loop-i l = AlikeSoFar l.x l.y l.i
