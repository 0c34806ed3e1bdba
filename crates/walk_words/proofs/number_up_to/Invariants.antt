-- The loop has read the digits so far.
use Rattle.walk_words.proofs.Reading.{SoFar}
use Rattle.walk_words.proofs.number_up_to.Given as goal

abbrev pub invariant-loop-c : goal.invariant-loop-c
invariant-loop-c l = SoFar l.word l.most l.n l.c-index
