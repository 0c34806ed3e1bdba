-- Each form asks for its own rule, and no other form is good.
use Rattle.param_check.proofs.Values.{of_none, of_token, of_quoted, of_wider}
use Rattle.param_check.proofs.is_good_value.Goals as goal

pub returns-in-0 : goal.returns-in-0
returns-in-0 c = of_none c.in-0.is

pub returns-in-1 : goal.returns-in-1
returns-in-1 c = of_token c.in-1.is c.is_token_part.ensures

pub returns-in-2 : goal.returns-in-2
returns-in-2 c = of_quoted c.in-2.is c.is_inside.ensures

pub returns-in_default : goal.returns-in_default
returns-in_default c =
    let none = c.in_default.in_default-own.rest in
    of_wider none.0.0.1 none.0.1 none.1 c.is_wider_value.ensures
