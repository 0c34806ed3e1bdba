-- Behind a first digit: a second one gives the octet.
use mathlib.Core.Path.{sym, ◌∙◌}
use Rattle.units.proofs.Giving.{no_second, second, other_second}
use Rattle.units.proofs.second_digit.Goals as goal

pub tripled_octet-requires : goal.tripled_octet-requires
tripled_octet-requires c =
    (c.requires.1, sym c.is_in.ensures ∙ c.if-not-is_in.false)

pub returns-in_err-b : goal.returns-in_err-b
returns-in_err-b c = rw c.from_residual.ensures (no_second c.in_err-b.ensures c.args.a)

pub returns-then-not-is_in : goal.returns-then-not-is_in
returns-then-not-is_in c =
    other_second c.in_ok-b.ensures c.args.a (sym c.is_in.ensures ∙ c.if-not-is_in.true)

pub returns : goal.returns
returns c =
    second c.in_ok-b.ensures c.args.a (sym c.is_in.ensures ∙ c.if-not-is_in.false)
    c.tripled_octet.ensures
