-- Each count of ones leads to its own answer.
use mathlib.Core.Path.{◌∙◌}
use borrow.Author.Rules.{rules}
use Rattle.sequences.proofs.ByLength.{of_none, of_two_lem, of_three_lem, of_four, of_others}
use Rattle.sequences.proofs.behind_first.Goals as goal

pub returns-then-n-eq0 : goal.returns-then-n-eq0
returns-then-n-eq0 c = c.nothing.ensures ∙ of_none _ _ c.leading_ones-n.ensures (search rules) c.if-n-eq0.true

pub returns-then-n-c : goal.returns-then-n-c
returns-then-n-c c =
    c.tails.ensures
    ∙ of_two_lem _ _ c.leading_ones-n.ensures (search rules) c.if-n-eq0.false
    c.if-n-c.true

pub returns-then-n-eq3 : goal.returns-then-n-eq3
returns-then-n-eq3 c =
    rw (c.pick-low.ensures, c.pick-high.ensures)
    (of_three_lem _ _ c.leading_ones-n.ensures (search rules) c.if-n-eq0.false
    c.if-n-c.false c.if-n-eq3.true)

pub returns-then-n-c-2 : goal.returns-then-n-c-2
returns-then-n-c-2 c =
    rw (c.pick-low-then-n-c-2.ensures, c.pick-high-then-n-c-2.ensures)
    (of_four _ _ c.leading_ones-n.ensures (search rules)
    c.if-n-eq0.false
    c.if-n-c.false c.if-n-eq3.false c.if-n-c-2.true)

pub returns : goal.returns
returns c =
    c.impossible.ensures
    ∙ of_others _ _ c.leading_ones-n.ensures (search rules)
    c.if-n-eq0.false
    c.if-n-c.false c.if-n-eq3.false c.if-n-c-2.false
