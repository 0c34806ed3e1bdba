-- The loop passes one parameter at each turn, and notes it if it is kept; each return says why it ended there.
use Prim.Native.Nat.{◌-◌}
use mathlib.Core.List.{List}
use lib.ListN.{length}
use Rattle.grammar.specs.Link.{Param}
use Rattle.octets.specs.Editions.{further}
use Rattle.scanner.proofs.NotedInOrder.{KeptNoted}
use Rattle.scanner.proofs.ParamsSoFar.{ParamsSoFar}
use Rattle.scanner.proofs.link.past_params.Given as goal

abbrev pub invariant-loop-edition : goal.invariant-loop-edition
invariant-loop-edition l =
    (params : List Param) × ParamsSoFar (further l.edition) l.s l.initial.c.at.0 l.c.at.0 l.kept l.seen params × KeptNoted l.s l.m.0 params
    l.initial.notes l.notes

abbrev pub decreases-loop-edition : goal.decreases-loop-edition
decreases-loop-edition l = length l.s - l.c.at.0
