-- The loop seeks the first `>`, and none stands within the target.
use Prim.Native.Nat.{◌-◌}
use lib.ListN.{length}
use Rattle.grammar.specs.Grammar.{Run}
use Rattle.known.specs.Known.{is_open}
use Rattle.known.proofs.target.target_end.Given as goal

abbrev pub invariant-loop-c : goal.invariant-loop-c
invariant-loop-c l = Run l.s is_open l.initial.c.at.0 l.c.at.0

abbrev pub decreases-loop-c : goal.decreases-loop-c
decreases-loop-c l = length l.s - l.c.at.0
