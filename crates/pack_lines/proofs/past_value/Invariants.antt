-- Blocks are passed first, and then octets.
use Rattle.cursor.proofs.RunSoFar.{RunSoFar}
use Rattle.pack_lines.specs.Lines.{in_value}
use Rattle.pack_lines.proofs.past_value.Given as goal

abbrev pub invariant-loop-i : goal.invariant-loop-i
invariant-loop-i l = RunSoFar in_value l.s l.initial.i l.i
