-- Each return is one case of the step.
use mathlib.Core.Path.{refl, sym, ◌∙◌}
use borrow.Author.Tests.{eq-eqb, ne_eqb}
use Rattle.phases.specs.Steps.{first_of}
use Rattle.phases.proofs.first_of.Goals as goal

pub returns-then-c-a : goal.returns-then-c-a
unfolding first_of
returns-then-c-a c = rw (eq-eqb c.args.c c.args.a c.if-c-a.true) refl

pub returns-then-c-b : goal.returns-then-c-b
unfolding first_of
returns-then-c-b c = rw (ne_eqb c.args.c c.args.a c.if-c-a.false, eq-eqb c.args.c c.args.b c.if-c-b.true) refl

pub returns-then-is_in : goal.returns-then-is_in
unfolding first_of
returns-then-is_in c = rw (ne_eqb c.args.c c.args.a c.if-c-a.false, ne_eqb c.args.c c.args.b c.if-c-b.false, sym c.is_in.ensures ∙ c.if-is_in.true) refl

pub returns : goal.returns
unfolding first_of
returns c = rw (ne_eqb c.args.c c.args.a c.if-c-a.false, ne_eqb c.args.c c.args.b c.if-c-b.false, sym c.is_in.ensures ∙ c.if-is_in.false) refl
