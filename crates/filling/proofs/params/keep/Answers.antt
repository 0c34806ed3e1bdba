-- The record is written unless its name stood before.
use native.Mathlib.Omega.{arith}
use native.Mathlib.Nat.{add-zero}
use mathlib.Core.Path.{refl, sym}
use Rattle.filling.proofs.params.keep.Goals as goal

pub returns-then-again : goal.returns-then-again
returns-then-again c = rw c.if-again.true (record { next = sym (add-zero _); written = refl })

pub put_param-requires : goal.put_param-requires
put_param-requires c = c.requires c.if-again.false

pub next-requires : goal.next-requires
next-requires c =
    omega (arith, c.requires c.if-again.false, c.well_formed.0.0)

pub returns : goal.returns
returns c =
    rw c.if-again.false (record { next = c.next.ensures; written = c.put_param.ensures })
