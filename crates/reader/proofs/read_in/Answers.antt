-- A header that is too long, or the outcome with so many notes.
use native.Mathlib.Omega.{arith}
use Rattle.outcomes.specs.Read.{too_long}
use Rattle.reader.proofs.read_in.Goals as goal

pub returns-then-n-gt-LIMIT : goal.returns-then-n-gt-LIMIT
returns-then-n-gt-LIMIT c = rw c.into.ensures (too_long (omega (arith, c.if-n-gt-LIMIT.true)))
