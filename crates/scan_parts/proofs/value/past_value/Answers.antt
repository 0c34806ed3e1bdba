-- A quoted string, a bare value, or neither.
use mathlib.Core.Path.{refl}
use borrow.Author.Rules.{rules}
use Rattle.scan_parts.specs.Scanned.{no_value, a_value}
use Rattle.scan_parts.proofs.ReadyBehindValue.{no_value_here}
use Rattle.scan_parts.proofs.PassedIsParsed.{bare_parsed}
use Rattle.scan_parts.proofs.PartsScanned.{quote_stuck, quote_passed}
use Rattle.scan_parts.proofs.value.past_value.Goals as goal

pub returns-in_err-q : goal.returns-in_err-q
returns-in_err-q c = search (rules, quote_stuck)

pub returns-then-sees : goal.returns-then-sees
returns-then-sees c =
    quote_passed (c.sees.ensures.yes c.if-sees.true) c.past_octet-start.ensures c.in_ok-q.ensures c.span_to-value.ensures
    c.past_octet.ensures

pub returns-then-e-from : goal.returns-then-e-from
returns-then-e-from c =
    no_value
    (no_value_here c.requires (c.sees.ensures.not c.if-sees.false)
    c.past_token-k.ensures c.past_further-e.ensures c.if-e-from.true)

pub returns : goal.returns
returns c =
    a_value refl
    (bare_parsed c.past_token-k.ensures c.past_further-e.ensures c.if-e-from.false
    c.span_to-value-2.ensures c.bare_form-form.ensures)
