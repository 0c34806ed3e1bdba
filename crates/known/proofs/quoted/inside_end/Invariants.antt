-- The loop passes pairs and plain octets, up to the first quote that stands for itself.
use Prim.Native.Nat.{◌-◌}
use lib.ListN.{length}
use Rattle.known.proofs.QuoteCloses.{Quoting}
use Rattle.known.proofs.quoted.inside_end.Given as goal

abbrev pub invariant-loop-c : goal.invariant-loop-c
invariant-loop-c l = Quoting l.s l.initial.c.at.0 l.c.at.0

abbrev pub decreases-loop-c : goal.decreases-loop-c
decreases-loop-c l = length l.s - l.c.at.0
