-- The loop passes the links: what is left of the table tells that each one's parameters stand in the slots.
use Rattle.listing.proofs.TableLeft.{TableLeft}
use Rattle.listing.proofs.put_table.Given as goal

abbrev pub invariant-loop-i : goal.invariant-loop-i
invariant-loop-i l = TableLeft l.links l.params l.fn.counts.links l.fn.counts.params l.i
