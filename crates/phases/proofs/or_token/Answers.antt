-- Each return is one case of the step.
use mathlib.Core.Path.{refl, sym, ◌∙◌}
use borrow.Author.Tests.{eq-eqb, ne_eqb}
use Rattle.phases.specs.Steps.{or_in}
use Rattle.phases.proofs.or_token.Goals as goal

pub returns-then-end-ne-STUCK : goal.returns-then-end-ne-STUCK
unfolding or_in
returns-then-end-ne-STUCK c = rw (ne_eqb c.args.end 12 c.if-end-ne-STUCK.true) refl

pub returns-then-is_in : goal.returns-then-is_in
unfolding or_in
returns-then-is_in c = rw (eq-eqb c.args.end 12 c.if-end-ne-STUCK.false, sym c.is_in.ensures ∙ c.if-is_in.true) refl

pub returns : goal.returns
unfolding or_in
returns c = rw (eq-eqb c.args.end 12 c.if-end-ne-STUCK.false, sym c.is_in.ensures ∙ c.if-is_in.false) refl
