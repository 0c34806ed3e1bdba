-- The octet is compared where it is there.
use Rattle.components.proofs.Marks.{told_octet, told_end}
use Rattle.components.proofs.is_at.Goals as goal

pub returns-then-i-to : goal.returns-then-i-to
returns-then-i-to c = told_octet _ _ _ c.if-i-to.true

pub returns-else-i-to : goal.returns-else-i-to
returns-else-i-to c = told_end _ _ _ c.if-i-to.false
