-- Each return is one case of the step.
use mathlib.Core.Path.{refl, sym, ◌∙◌}
use borrow.Author.Tests.{eq-eqb, ne_eqb}
use Rattle.phases.specs.Steps.{or_in}
use Rattle.phases.proofs.or_further.Goals as goal

pub returns-then-to-ne-STUCK : goal.returns-then-to-ne-STUCK
unfolding or_in
returns-then-to-ne-STUCK c = rw (ne_eqb c.args.to 12 c.if-to-ne-STUCK.true) refl

pub returns-then-is_further : goal.returns-then-is_further
unfolding or_in
returns-then-is_further c = rw (eq-eqb c.args.to 12 c.if-to-ne-STUCK.false, sym c.is_further.ensures ∙ c.if-is_further.true) refl

pub returns : goal.returns
unfolding or_in
returns c = rw (eq-eqb c.args.to 12 c.if-to-ne-STUCK.false, sym c.is_further.ensures ∙ c.if-is_further.false) refl
