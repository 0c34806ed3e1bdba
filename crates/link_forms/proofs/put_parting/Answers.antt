-- Nothing before the first link, and two octets before each later one.
use native.Mathlib.Omega.{arith}
use Rattle.kinds.proofs.Putting.{none}
use Rattle.link_forms.proofs.put_parting.Goals as goal

pub returns-then-first : goal.returns-then-first
returns-then-first c =
    rw c.if-first.true (none c.args.out.now c.args.at.0 (omega (arith, c.requires)))

pub put_two-requires : goal.put_two-requires
put_two-requires c = rw c.if-first.false at c.requires

pub returns : goal.returns
returns c = rw c.if-first.false c.put_two.ensures
