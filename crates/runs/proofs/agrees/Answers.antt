-- The two octets are compared where the second is there.
use borrow.Author.Tests.{lt-ltb, le-ltb}
use Rattle.runs.proofs.agrees.Goals as goal

pub returns-then-i-q : goal.returns-then-i-q
returns-then-i-q c = rw (lt-ltb _ _ c.if-i-q.true, c.same_octet.ensures)

pub returns-else-i-q : goal.returns-else-i-q
returns-else-i-q c = rw (le-ltb _ _ c.if-i-q.false)
