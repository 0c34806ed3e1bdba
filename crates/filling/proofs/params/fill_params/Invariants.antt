-- One parameter is written at each turn; the loop ends where no further one begins.
use Prim.Native.Nat.{◌-◌}
use lib.ListN.{length}
use Rattle.octets.specs.Editions.{further}
use Rattle.filling.proofs.ParamsWritten.{ParamsWritten}
use Rattle.filling.proofs.params.fill_params.Given as goal

abbrev pub invariant-loop-edition : goal.invariant-loop-edition
invariant-loop-edition l =
    ParamsWritten (further l.edition) l.s l.initial.c.at.0 l.initial.n.0 l.initial.params l.c.at.0 l.n.0 l.seen l.params

abbrev pub decreases-loop-edition : goal.decreases-loop-edition
decreases-loop-edition l = length l.s - l.c.at.0
