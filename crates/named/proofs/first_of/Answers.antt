-- A parameter of another code is passed, and those that are left tell the same.
use Prim.Native.Nat.{◌+◌}
use native.Mathlib.Omega.{arith}
use mathlib.Core.Path.{◌≡◌, ◌∙◌}
use Rattle.tables.specs.Table.{code_at}
use Rattle.named.proofs.Looking.{onward}
use Rattle.named.proofs.first_of.Goals as goal

pub loop-k-preserved : goal.loop-k-preserved
loop-k-preserved c =
    let next : c.args.l.first.0 + (c.loop-k.k + 1) ≡ c.args.l.first.0 + c.loop-k.k + 1 = omega arith in
    let told = rw c.plus-p.ensures at c.code_at.ensures in
    rw next (onward c.loop-k.invariant (omega (arith, c.loop-k-test.true)) told c.if-code_at-code.false)
