-- What is passed is stored at each turn.
use Rattle.dot_walk.proofs.Writing as w
use Rattle.dot_walk.proofs.write.Given as goal

abbrev pub invariant-loop-i : goal.invariant-loop-i
invariant-loop-i l = w.Writing l.s l.initial.out l.i-start l.right l.initial.i l.initial.t l.out l.i l.t
