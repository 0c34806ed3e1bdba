-- The loop passes the links: the parameters of those below number i are good.
use Rattle.octets.specs.Editions.{further}
use Rattle.table_check.specs.Links.{EachParams}
use Rattle.table_check.proofs.links.are_all_good.Given as goal

abbrev pub invariant-loop-i : goal.invariant-loop-i
invariant-loop-i l = EachParams (further l.edition) l.t.text.now l.t.links.now l.t.params.now l.i
