-- The loop passes the parameters: those that are left, behind the names that have been seen, tell what all of them are.
use Rattle.octets.specs.Editions.{further}
use Rattle.param_check.proofs.OfParams.{Checked}
use Rattle.param_check.proofs.are_good_params.Given as goal

abbrev pub invariant-loop-k : goal.invariant-loop-k
invariant-loop-k l = Checked (further l.edition) l.s l.slots l.first.0 l.count l.seen l.k
