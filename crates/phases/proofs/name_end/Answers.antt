-- Each return is one case of the step.
use mathlib.Core.Path.{refl}
use borrow.Author.Tests.{eq-eqb, ne_eqb}
use Rattle.phases.specs.Steps.{name_end_in}
use Rattle.phases.proofs.name_end.Goals as goal

pub returns-then-c-eq61 : goal.returns-then-c-eq61
unfolding name_end_in
returns-then-c-eq61 c = rw (eq-eqb c.args.c 61 c.if-c-eq61.true) refl

pub returns : goal.returns
unfolding name_end_in
returns c = rw (ne_eqb c.args.c 61 c.if-c-eq61.false) c.link_end.ensures
