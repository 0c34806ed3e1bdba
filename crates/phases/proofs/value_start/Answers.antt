-- Each return is one case of the step.
use mathlib.Core.Path.{refl}
use borrow.Author.Tests.{eq-eqb, ne_eqb}
use Rattle.phases.specs.Steps.{value_start_in}
use Rattle.phases.proofs.value_start.Goals as goal

pub returns-then-c-eq34 : goal.returns-then-c-eq34
unfolding value_start_in
returns-then-c-eq34 c = rw (eq-eqb c.args.c 34 c.if-c-eq34.true) refl

pub returns : goal.returns
unfolding value_start_in
returns c =
    rw (ne_eqb c.args.c 34 c.if-c-eq34.false, ← c.token_or_blank.ensures)
    c.or_further.ensures
