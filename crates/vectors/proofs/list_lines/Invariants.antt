-- A line begins behind the ends that have been passed.
use Prim.Native.Nat.{◌≤◌}
use Rattle.vectors.proofs.list_lines.Given as goal

abbrev pub invariant-loop-i : goal.invariant-loop-i
invariant-loop-i l = l.from ≤ l.i
