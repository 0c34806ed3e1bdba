-- The loop has passed backslashes only.
use Rattle.bare.proofs.Passing.{Passing}
use Rattle.bare.proofs.past.Given as goal

abbrev pub invariant-loop-i : goal.invariant-loop-i
invariant-loop-i l = Passing l.s l.fn.from.0 l.fn.to.0 l.i
