-- The loop passes octets of the set, and stops at the first that is none or at the end.
use Rattle.pack_lines.specs.Lines.{in_uri}
use Rattle.cursor.proofs.RunSoFar.{RunSoFar}
use Rattle.pack_lines.proofs.past_uri.Given as goal

abbrev pub invariant-loop-i : goal.invariant-loop-i
invariant-loop-i l = RunSoFar in_uri l.s l.fn.from.0 l.i
