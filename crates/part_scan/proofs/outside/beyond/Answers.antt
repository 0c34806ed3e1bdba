-- The text ends here, or its octet leads nowhere, into a target, or on.
use native.Mathlib.Numerals.{add-one}
use mathlib.Core.Path.{◌∙◌}
use Rattle.part_scan.proofs.Stepping.{out_end, out_halts, out_opens, out_moves}
use Rattle.part_scan.proofs.outside.beyond.Goals as goal

pub returns-then-i-s : goal.returns-then-i-s
returns-then-i-s c = out_end c.requires.0 c.if-i-s.true

pub returns-then-next-eq-STUCK : goal.returns-then-next-eq-STUCK
returns-then-next-eq-STUCK c =
    out_halts c.if-i-s.false c.requires.1 c.on-next.ensures c.if-next-eq-STUCK.true

pub returns-then-next-eq-TARGET : goal.returns-then-next-eq-TARGET
returns-then-next-eq-TARGET c =
    out_opens c.if-i-s.false c.requires.1 c.on-next.ensures c.if-next-eq-TARGET.true
    (c.past_octet.ensures ∙ add-one _)

pub returns : goal.returns
returns c =
    out_moves c.if-i-s.false c.requires.1 c.on-next.ensures c.if-next-eq-STUCK.false
    c.if-next-eq-TARGET.false (c.past_octet-2.ensures ∙ add-one _)
