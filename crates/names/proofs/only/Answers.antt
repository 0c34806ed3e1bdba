-- As the comparison tells.
use mathlib.Core.Path.{sym, ◌∙◌}
use Rattle.names.proofs.only.Goals as goal

pub returns-then-compare : goal.returns-then-compare
returns-then-compare c = rw (sym c.compare.ensures.same_value ∙ c.if-compare.true)

pub returns-else-compare : goal.returns-else-compare
returns-else-compare c = rw (sym c.compare.ensures.same_value ∙ c.if-compare.false)
