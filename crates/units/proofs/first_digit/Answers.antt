-- Behind a `%`: a first digit leads on to the second.
use mathlib.Core.Path.{sym, ◌∙◌}
use Rattle.units.proofs.Giving.{no_first, to_second, other_first}
use Rattle.units.proofs.first_digit.Goals as goal

pub second_digit-requires : goal.second_digit-requires
second_digit-requires c = (c.requires, sym c.is_in.ensures ∙ c.if-not-is_in.false)

pub returns-in_err-a : goal.returns-in_err-a
returns-in_err-a c = rw c.from_residual.ensures (no_first c.in_err-a.ensures)

pub returns-then-not-is_in : goal.returns-then-not-is_in
returns-then-not-is_in c =
    other_first c.in_ok-a.ensures (sym c.is_in.ensures ∙ c.if-not-is_in.true)

pub returns : goal.returns
returns c =
    to_second c.in_ok-a.ensures (sym c.is_in.ensures ∙ c.if-not-is_in.false) c.second_digit.result
    c.second_digit.ensures
