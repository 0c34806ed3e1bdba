-- Octets that are the same fold alike, and others only as a letter in either case.
use mathlib.Core.Path.{ap, sym, ◌∙◌}
use borrow.Author.Tests.{eq-eqb}
use Rattle.octets.specs.Fold.{fold}
use Rattle.folding.proofs.Cases.{other_case}
use Rattle.folding.proofs.same_octet.Goals as goal

pub returns-then-c-d : goal.returns-then-c-d
returns-then-c-d c = let e = c.if-c-d.true in eq-eqb _ _ e ∙ sym (eq-eqb _ _ (ap fold e))

pub returns-else-c-d : goal.returns-else-c-d
returns-else-c-d c =
    let start = c in
    other_case start.args.c start.args.d start.ranges.c.fits start.ranges.d.fits c.if-c-d.false
