-- In a target its judging goes along, and outside a `<` opens one.
use mathlib.Core.Path.{sym, ◌∙◌}
use Rattle.phases.proofs.SpotCases.{onward_open, onward_begins, onward_flat}
use Rattle.phases.proofs.spot.onward.Goals as goal

pub returns-then-is_open : goal.returns-then-is_open
returns-then-is_open c = c.behind_target.ensures ∙ onward_open c.args.spot _ _ _ c.on-phase.ensures (sym c.is_open.ensures ∙ c.if-is_open.true)

pub returns-then-phase-eq-TARGET : goal.returns-then-phase-eq-TARGET
returns-then-phase-eq-TARGET c = onward_begins c.args.spot _ _ _ c.on-phase.ensures (sym c.is_open.ensures ∙ c.if-is_open.false) c.if-phase-eq-TARGET.true

pub returns : goal.returns
returns c = c.flat.ensures ∙ onward_flat c.args.spot _ _ _ c.on-phase.ensures (sym c.is_open.ensures ∙ c.if-is_open.false) c.if-phase-eq-TARGET.false
