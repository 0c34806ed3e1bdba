-- No octet of the set has come before the loop's place.
use Rattle.components.specs.Looks.{stops_of}
use Rattle.components.proofs.Finding.{Finding}
use Rattle.components.proofs.find.Given as goal

abbrev pub invariant-loop-i : goal.invariant-loop-i
invariant-loop-i l = Finding (stops_of l.stops) l.s l.fn.from.0 l.fn.to.0 l.i
