-- The loop passes octets of the set, and stops at the first that is none or at the end.
use mathlib.Core.Path.{◌≡◌}
use Rattle.octet_classes.specs.Sets.{is_in}
use Rattle.cursor.proofs.RunSoFar.{RunSoFar}
use Rattle.cursor.proofs.Cursor.past.Given as goal

abbrev pub invariant-loop-i : goal.invariant-loop-i
invariant-loop-i l = (l.end ≡ l.i) × RunSoFar (is_in l.set) l.s l.fn.self.at.0 l.i
