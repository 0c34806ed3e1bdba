use mathlib.Core.Path.{refl}
use Rattle.outcomes.specs.InEdition.{unknown, known}
use Rattle.resolved.proofs.refused_long.Goals as goal

pub returns-in-None : goal.returns-in-None
returns-in-None c =
    let edition-of' = c.edition_of in
    unknown (rw c.in-None.is at edition-of'.ensures)

pub returns-in-Some : goal.returns-in-Some
returns-in-Some c =
    let edition-of' = c.edition_of in
    known {e = c.in-Some.field-0} (rw c.in-Some.is at edition-of'.ensures) refl
