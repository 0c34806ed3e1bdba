-- What stands behind the language is the same from each of its octets on.
use native.Mathlib.Omega.{arith}
use mathlib.Core.Path.{refl, sym, ◌∙◌}
use Rattle.decoding.proofs.BehindFront.{no_language, language_ends, language_on, no_language_octet}
use Rattle.decoding.proofs.fronts.language_from.Goals as goal

pub loop-c-init : goal.loop-c-init
loop-c-init c = refl

pub returns-then-c-eq39 : goal.returns-then-c-eq39
returns-then-c-eq39 c =
    language_ends c.in-Some.ensures c.if-c-eq39.true ∙ c.loop-c.invariant

pub returns-then-not-is_language : goal.returns-then-not-is_language
returns-then-not-is_language c =
    no_language_octet c.in-Some.ensures c.if-c-eq39.false (sym c.is_language.ensures ∙ c.if-not-is_language.true)
    ∙ c.loop-c.invariant

pub loop-c-smaller : goal.loop-c-smaller
loop-c-smaller c =
    let read = c.in-Some.ensures in
    omega (arith, read.onward, read.inside)

pub loop-c-preserved : goal.loop-c-preserved
loop-c-preserved c =
    language_on c.in-Some.ensures c.if-c-eq39.false (sym c.is_language.ensures ∙ c.if-not-is_language.false)
    ∙ c.loop-c.invariant

pub returns : goal.returns
returns c = no_language c.in_default.ensures ∙ c.loop-c.invariant
