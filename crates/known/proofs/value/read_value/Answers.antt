-- A quoted string, else a bare value: one of them stands there.
use borrow.Author.Rules.{rules}
use Rattle.scan_parts.proofs.PassedIsParsed.{quoted_parsed}
use Rattle.known.proofs.KnownIsParsed.{known_quoted, bare_value}
use Rattle.known.proofs.value.read_value.Goals as goal

pub past_octet-start-requires : goal.past_octet-start-requires
past_octet-start-requires c = (c.sees.ensures.yes c.if-sees.true).inside

pub inside_end-q-requires : goal.inside_end-q-requires
inside_end-q-requires c =
    known_quoted c.requires (c.sees.ensures.yes c.if-sees.true)
    c.past_octet-start.ensures

pub past_octet-requires : goal.past_octet-requires
past_octet-requires c = c.inside_end-q.ensures.1.inside

pub returns-then-sees : goal.returns-then-sees
returns-then-sees c =
    quoted_parsed (c.sees.ensures.yes c.if-sees.true) c.past_octet-start.ensures
    c.inside_end-q.ensures.0 c.inside_end-q.ensures.1 c.span_to.ensures
    c.past_octet.ensures

pub past_token-k-requires : goal.past_token-k-requires
past_token-k-requires c = (c.requires.clear.inside)

pub past_further-e-requires : goal.past_further-e-requires
past_further-e-requires c = (record { inside = c.past_token-k.ensures.inside; stops = c.past_token-k.ensures.stops })

pub returns : goal.returns
returns c =
    bare_value c.requires c.sees.ensures c.if-sees.false c.past_token-k.ensures
    c.past_further-e.ensures c.span_to-2.ensures c.bare_form.ensures
