-- Each turn passes an empty item or fills in a link.
use Prim.Native.Nat.{◌-◌}
use lib.ListN.{length}
use Rattle.octets.specs.Editions.{further}
use Rattle.filling.proofs.LinksWritten.{LinksWritten}
use Rattle.filling.proofs.fill.Given as goal

abbrev pub invariant-loop-edition : goal.invariant-loop-edition
invariant-loop-edition l =
    LinksWritten (further l.edition) l.s l.initial.links l.initial.params l.c.at.0 l.n.0 l.m.0 l.links l.params

abbrev pub decreases-loop-edition : goal.decreases-loop-edition
decreases-loop-edition l = length l.s - l.c.at.0
