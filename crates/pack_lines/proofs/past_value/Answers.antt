-- Blocks are passed first, and then octets.
use mathlib.Core.Path.{ap}
use mathlib.Core.Bool.{not}
use borrow.Author.Tests.{eq-eqb, ne_eqb}
use Rattle.cursor.proofs.RunSoFar.{begin, more, further, up_to_the_end, stop}
use Rattle.pack_lines.proofs.past_value.Goals as goal

pub loop-i-init : goal.loop-i-init
loop-i-init c = begin c.past_blocks_without-passed.ensures.inside

pub loop-i-preserved : goal.loop-i-preserved
loop-i-preserved c = more c.loop-i.invariant c.loop-i-test.true (ap not (ne_eqb _ 10 c.if-s-i-eq10.false))

pub returns-then-s-i-eq10 : goal.returns-then-s-i-eq10
returns-then-s-i-eq10 c =
    stop (further c.past_blocks_without-passed.ensures c.loop-i.invariant) (ap not (eq-eqb _ 10 c.if-s-i-eq10.true))

pub returns : goal.returns
returns c = up_to_the_end (further c.past_blocks_without-passed.ensures c.loop-i.invariant) c.loop-i-test.false
