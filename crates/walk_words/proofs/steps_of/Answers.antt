-- The number is small, so that it fits 32 bits whichever sign it has.
use native.Mathlib.Omega.{arith}
use mathlib.Core.Path.{◌∙◌}
use Rattle.walk_words.proofs.Signs.{forward_fits, forward, backward_fits, backward, no_word, minus, no_minus}
use Rattle.walk_words.proofs.steps_of.Goals as goal

pub returns-then-word-eq0 : goal.returns-then-word-eq0
returns-then-word-eq0 c = no_word c.args.word.now (omega arith)

pub overflow_cast-result-then-word-eq45 : goal.overflow_cast-result-then-word-eq45
overflow_cast-result-then-word-eq45 c = forward_fits c.number_up_to.ensures.1

pub overflow_sub-result : goal.overflow_sub-result
overflow_sub-result c = backward_fits c.number_up_to.ensures.1

pub returns-then-word-eq45 : goal.returns-then-word-eq45
returns-then-word-eq45 c = backward c.number_up_to.ensures.1 ∙ minus c.args.word.now (omega arith) c.if-word-eq45.true c.number_up_to.ensures.0

pub overflow_cast-result-2 : goal.overflow_cast-result-2
overflow_cast-result-2 c = forward_fits c.number_up_to-2.ensures.1

pub returns : goal.returns
returns c =
    forward c.number_up_to-2.ensures.1 ∙ no_minus c.args.word.now (omega arith) c.if-word-eq45.false c.number_up_to-2.ensures.0
