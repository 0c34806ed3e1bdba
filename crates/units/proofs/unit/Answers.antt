-- An attribute character gives itself, and a `%` leads on to its digits.
use mathlib.Core.Path.{sym, ◌∙◌}
use Rattle.units.proofs.Giving.{done, first_gives, first_wrong, attribute, other}
use Rattle.units.proofs.unit.Goals as goal

pub returns-in_default : goal.returns-in_default
returns-in_default c = done c.in_default.ensures

pub returns-in-Some-first_digit : goal.returns-in-Some-first_digit
returns-in-Some-first_digit c =
    first_gives c.in-Some.ensures c.if-c-eq37.true c.in-Some-first_digit.ensures

pub returns-in-None : goal.returns-in-None
returns-in-None c =
    first_wrong c.in-Some.ensures c.if-c-eq37.true c.in-None.ensures

pub returns-then-not-is_attribute : goal.returns-then-not-is_attribute
returns-then-not-is_attribute c =
    other c.in-Some.ensures c.if-c-eq37.false (sym c.is_attribute.ensures ∙ c.if-not-is_attribute.true)

pub returns : goal.returns
returns c =
    attribute c.in-Some.ensures c.if-c-eq37.false (sym c.is_attribute.ensures ∙ c.if-not-is_attribute.false)
