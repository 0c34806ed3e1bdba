-- A sequence begins, or goes on.
use mathlib.Core.Path.{◌∙◌}
use Rattle.sequences.proofs.Behind.{at_first, at_next, at_other}
use Rattle.sequences.proofs.Awaited.behind.Goals as goal

pub returns-then-self-eq0 : goal.returns-then-self-eq0
returns-then-self-eq0 c = c.behind_first.ensures ∙ at_first _ _ c.if-self-eq0.true

pub returns-then-self-c : goal.returns-then-self-c
returns-then-self-c c = c.tails.ensures ∙ at_next _ _ c.if-self-eq0.false c.if-self-c.true

pub returns : goal.returns
returns c = c.impossible.ensures ∙ at_other _ _ c.if-self-eq0.false c.if-self-c.false
