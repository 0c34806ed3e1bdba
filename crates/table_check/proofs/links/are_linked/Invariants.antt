-- The loop passes the links: those that are left, with what their parameters begin at, tell whether all follow with good targets.
use Rattle.table_check.proofs.OfLinks.{Walked}
use Rattle.table_check.proofs.links.are_linked.Given as goal

abbrev pub invariant-loop-i : goal.invariant-loop-i
invariant-loop-i l = Walked l.text l.links l.counts.links l.counts.params l.next.0 l.i
