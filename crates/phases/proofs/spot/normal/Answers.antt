-- In a target the spot stays, and outside its phase does.
use mathlib.Core.Path.{sym, ◌∙◌}
use Rattle.phases.proofs.SpotCases.{normal_open, normal_flat}
use Rattle.phases.proofs.spot.normal.Goals as goal

pub returns-then-is_open : goal.returns-then-is_open
returns-then-is_open c = normal_open c.args.spot (sym c.is_open.ensures ∙ c.if-is_open.true)

pub returns : goal.returns
returns c = c.flat.ensures ∙ normal_flat c.args.spot (sym c.is_open.ensures ∙ c.if-is_open.false)
