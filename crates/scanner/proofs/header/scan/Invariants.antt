-- The loop passes one item at each turn; each return says why the header ends there, or is malformed.
use Prim.Native.Nat.{◌-◌}
use lib.ListN.{length}
use Rattle.octets.specs.Editions.{further}
use Rattle.scanner.proofs.LinksSoFar.{LinksSoFar}
use Rattle.scanner.proofs.header.scan.Given as goal

abbrev pub invariant-loop-edition : goal.invariant-loop-edition
invariant-loop-edition l =
    LinksSoFar (further l.edition) l.s l.c.at.0 l.counts l.initial.links l.links l.initial.params l.params

abbrev pub decreases-loop-edition : goal.decreases-loop-edition
decreases-loop-edition l = length l.s - l.c.at.0
