-- The loop passes pairs and runs of plain octets, and stands in the same phase behind each.
-- a pair, with the places as the code moves them
use Prim.Native.Nat.{ℕ, ◌-◌}
use lib.ListN.{length}
use Rattle.grammar.specs.Grammar.{Extra}
use Rattle.part_scan.specs.Moved.{Stays}
use Rattle.part_scan.proofs.outside.past_quoted.Given as goal

abbrev pub invariant-loop-d : goal.invariant-loop-d
invariant-loop-d l = (extra : Extra) (base : ℕ) → Stays extra l.s base 10 l.initial.c.at.0 l.c.at.0

abbrev pub decreases-loop-d : goal.decreases-loop-d
decreases-loop-d l = length l.s - l.c.at.0
