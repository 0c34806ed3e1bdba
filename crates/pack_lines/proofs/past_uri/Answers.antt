-- The loop passes octets of the set, and stops at the first that is none or at the end.
use mathlib.Core.Path.{sym, ◌∙◌}
use Rattle.cursor.proofs.RunSoFar.{begin, more, up_to_the_end, stop}
use Rattle.pack_lines.proofs.past_uri.Goals as goal

pub loop-i-init : goal.loop-i-init
loop-i-init c = begin c.requires

pub loop-i-preserved : goal.loop-i-preserved
loop-i-preserved c =
    more c.loop-i.invariant c.loop-i-test.true
    (sym c.is_in_uri.ensures ∙ c.if-not-is_in_uri.false)

pub returns-then-not-is_in_uri : goal.returns-then-not-is_in_uri
returns-then-not-is_in_uri c = stop c.loop-i.invariant (sym c.is_in_uri.ensures ∙ c.if-not-is_in_uri.true)

pub returns : goal.returns
returns c = up_to_the_end c.loop-i.invariant c.loop-i-test.false
