use mathlib.Core.Path.{refl}
use borrow.Author.Tests.{eq-eqb, ne_eqb}
use Rattle.dot_walk.proofs.passed.Goals as goal

pub returns-then-c-eq92 : goal.returns-then-c-eq92
returns-then-c-eq92 c = rw (eq-eqb c.args.c 92 c.if-c-eq92.true) refl

pub returns-else-c-eq92 : goal.returns-else-c-eq92
returns-else-c-eq92 c =
    let given = c.args in
    rw (ne_eqb given.c 92 c.if-c-eq92.false) c.step.ensures
