-- A name, and behind it a value or none.
use mathlib.Core.Path.{refl}
use Rattle.scan_parts.specs.Scanned.{no_param, a_param}
use Rattle.scan_parts.proofs.ReadyBehindParam.{no_param_here}
use Rattle.scan_parts.proofs.PassedIsParsed.{flag_parsed}
use Rattle.scan_parts.proofs.PartsScanned.{value_scanned}
use Rattle.scan_parts.proofs.param.past_param.Goals as goal

pub returns-then-e-from : goal.returns-then-e-from
returns-then-e-from c =
    no_param (no_param_here c.requires c.past_token-e.ensures c.if-e-from.true)

pub returns-then-sees : goal.returns-then-sees
returns-then-sees c =
    value_scanned c.past_token-e.ensures c.if-e-from.false c.past_blanks-k.ensures
    c.span_to-name.ensures (c.sees.ensures.yes c.if-sees.true) c.past_octet.ensures
    c.past_blanks.ensures c.past_value.ensures

pub returns : goal.returns
returns c =
    a_param
    (flag_parsed c.past_token-e.ensures c.if-e-from.false c.past_blanks-k.ensures
    c.span_to-name.ensures (c.sees.ensures.not c.if-sees.false) c.span_to-value.ensures refl)
