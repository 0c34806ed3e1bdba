-- Each return is one case of the step.
use mathlib.Core.Path.{refl, sym, ◌∙◌}
use Rattle.phases.specs.Steps.{token_or_blank}
use Rattle.phases.proofs.token_or_blank.Goals as goal

pub returns-then-is_in : goal.returns-then-is_in
unfolding token_or_blank
returns-then-is_in c = rw (sym c.is_in.ensures ∙ c.if-is_in.true) refl

pub returns-then-is_in-2 : goal.returns-then-is_in-2
unfolding token_or_blank
returns-then-is_in-2 c = rw (sym c.is_in.ensures ∙ c.if-is_in.false, sym c.is_in-2.ensures ∙ c.if-is_in-2.true) refl

pub returns : goal.returns
unfolding token_or_blank
returns c = rw (sym c.is_in.ensures ∙ c.if-is_in.false, sym c.is_in-2.ensures ∙ c.if-is_in-2.false) refl
