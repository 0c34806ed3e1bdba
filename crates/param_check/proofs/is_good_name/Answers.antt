-- Another code is refused; a known name is a token, and any other is looked at.
use mathlib.Core.Path.{sym, ◌∙◌}
use Rattle.part_check.proofs.Deciding.{is_so, also, not_so}
use Rattle.param_check.proofs.KnownNames.{known_token}
use Rattle.param_check.proofs.is_good_name.Goals as goal

pub returns-then-told-code : goal.returns-then-told-code
returns-then-told-code c = not_so (λ g. c.if-told-code.true (c.code-told.ensures ∙ sym g.code))

pub returns-then-code-gt0 : goal.returns-then-code-gt0
returns-then-code-gt0 c =
    let code = sym c.if-told-code.false ∙ c.code-told.ensures in
    is_so (record { token = known_token c.args.s.now c.requires code c.if-code-gt0.true; code = code })

pub returns : goal.returns
returns c =
    let code = sym c.if-told-code.false ∙ c.code-told.ensures in
    also (λ t. record { token = t; code = code }) (λ g. g.token) c.is_token_part.ensures
