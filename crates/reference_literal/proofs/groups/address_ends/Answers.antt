-- With and without a digit of the last group. Assumes nothing.
use borrow.Author.Tests.{eq-eqb, ne_eqb}
use Rattle.reference_literal.proofs.groups.address_ends.Goals as goal

pub returns-then-d-eq0 : goal.returns-then-d-eq0
returns-then-d-eq0 c = rw (eq-eqb c.args.d 0 c.if-d-eq0.true) c.pick.ensures

pub returns : goal.returns
returns c = rw (ne_eqb c.args.d 0 c.if-d-eq0.false) c.pick-2.ensures
