-- Each state has its function, and the numbers that are no state's lead nowhere. Assumes nothing.
use mathlib.Core.Path.{sym}
use Rattle.reference_sets.proofs.Moves.{quiet}
use Rattle.reference_steps.specs.Machine.{step}
use Rattle.reference_literal.proofs.literals.in_literal.Goals as goal

pub returns-then-q-eq55 : goal.returns-then-q-eq55
unfolding step
returns-then-q-eq55 c = rw (c.if-q-eq55.true, c.pick.ensures, c.is_alpha.ensures)

pub returns-then-q-eq56 : goal.returns-then-q-eq56
returns-then-q-eq56 c = rw c.if-q-eq56.true c.in_uri_scheme.ensures

pub returns : goal.returns
returns c =
    sym (quiet c.args.q c.args.c c.if-q-lt54.false c.if-q-eq55.false c.if-q-eq56.false c.requires.1)
