-- Nothing more is given, so the count stands.
use native.Mathlib.Nat.{add-zero}
use borrow.Author.Tests.{eq-eqb, ne_eqb}
use Rattle.decoding.proofs.octets_given.finished.Goals as goal

pub returns-then-awaited-eq0 : goal.returns-then-awaited-eq0
returns-then-awaited-eq0 c = rw (eq-eqb _ 0 c.if-awaited-eq0.true, add-zero c.args.n)

pub returns-else-awaited-eq0 : goal.returns-else-awaited-eq0
returns-else-awaited-eq0 c = rw (ne_eqb _ 0 c.if-awaited-eq0.false)
