-- A name, and behind it a value or none.
use native.Mathlib.Omega.{arith}
use mathlib.Core.Path.{refl}
use Rattle.scan_parts.proofs.PassedIsParsed.{flag_parsed, valued_parsed}
use Rattle.known.proofs.KnownIsParsed.{has_name, known_value}
use borrow.Author.Rules.{rules}
use Rattle.known.proofs.param.read_param.Goals as goal

pub past_token-e-requires : goal.past_token-e-requires
past_token-e-requires c = (c.requires.clear.inside)

pub past_blanks-k-requires : goal.past_blanks-k-requires
past_blanks-k-requires c = (c.past_token-e.ensures.inside)

pub past_octet-requires : goal.past_octet-requires
past_octet-requires c = (c.sees.ensures.yes c.if-sees.true).inside

pub past_blanks-requires : goal.past_blanks-requires
past_blanks-requires c = (omega (arith, c.past_octet.ensures, (c.sees.ensures.yes c.if-sees.true).inside))

pub read_value-v-requires : goal.read_value-v-requires
read_value-v-requires c = (
    known_value c.requires c.past_token-e.ensures c.past_blanks-k.ensures
    (c.sees.ensures.yes c.if-sees.true) c.past_octet.ensures c.past_blanks.ensures)

pub returns-then-sees : goal.returns-then-sees
returns-then-sees c =
    valued_parsed c.past_token-e.ensures (has_name c.requires c.past_token-e.ensures)
    c.past_blanks-k.ensures c.span_to-name.ensures
    (c.sees.ensures.yes c.if-sees.true) c.past_octet.ensures c.past_blanks.ensures
    c.read_value-v.ensures (refl, refl) refl

pub returns : goal.returns
returns c =
    flag_parsed c.past_token-e.ensures (has_name c.requires c.past_token-e.ensures)
    c.past_blanks-k.ensures c.span_to-name.ensures (c.sees.ensures.not c.if-sees.false)
    c.span_to-value.ensures refl
