-- The text ends here, or its octet leads nowhere, closes a target that is no reference, or leads on.
use native.Mathlib.Numerals.{add-one}
use mathlib.Core.Path.{◌∙◌}
use Rattle.part_scan.proofs.Moves.{place_as, at_its_end, one_halts, one_refused, one_moves}
use Rattle.part_scan.proofs.go_on.behind.Goals as goal

pub returns-then-i-s : goal.returns-then-i-s
returns-then-i-s c = at_its_end c.requires.0 c.if-i-s.true

pub returns-then-next-eq-STUCK : goal.returns-then-next-eq-STUCK
returns-then-next-eq-STUCK c = one_halts c.if-i-s.false (place_as _ _ _ _ _ _ c.onward-next.ensures) c.if-next-eq-STUCK.true

pub returns-then-next-eq-UNFIT : goal.returns-then-next-eq-UNFIT
returns-then-next-eq-UNFIT c = one_refused c.if-i-s.false (place_as _ _ _ _ _ _ c.onward-next.ensures) c.if-next-eq-UNFIT.true

pub returns : goal.returns
returns c = one_moves c.if-i-s.false (place_as _ _ _ _ _ _ c.onward-next.ensures) c.if-next-eq-STUCK.false c.if-next-eq-UNFIT.false
    (c.past_octet.ensures ∙ add-one _)
