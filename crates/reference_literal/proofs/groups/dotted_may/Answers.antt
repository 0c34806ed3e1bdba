-- Both sides of `::`. Assumes nothing.
use borrow.Author.Tests.{eq-eqb, ne_eqb}
use Rattle.reference_literal.proofs.groups.dotted_may.Goals as goal

pub returns-then-z-eq0 : goal.returns-then-z-eq0
returns-then-z-eq0 c = rw (eq-eqb c.args.z 0 c.if-z-eq0.true)

pub returns : goal.returns
returns c = rw (ne_eqb c.args.z 0 c.if-z-eq0.false)
