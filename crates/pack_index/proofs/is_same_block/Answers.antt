-- As long as all are the same, those so far are.
use Prim.Native.Nat.{◌-◌}
use native.Mathlib.Omega.{arith}
use mathlib.Core.Path.{◌≡◌}
use mathlib.Core.Bool.{true}
use Rattle.pack_index.proofs.SameEnds.{none_yet, one_more}
use Rattle.pack_index.proofs.is_same_block.Goals as goal

pub loop-k-init : goal.loop-k-init
loop-k-init c = (omega arith, none_yet c.args.u.now c.args.v.now c.args.at)

pub loop-k-preserved : goal.loop-k-preserved
loop-k-preserved c =
    let g = c.args in
    (omega (arith, c.loop-k-test.true), one_more g.u.now g.v.now g.at c.loop-k.k c.loop-k.invariant.1)

pub returns : goal.returns
returns c =
    let whole : c.loop-k.k ≡ 16 = omega (arith, c.loop-k-test.false, c.loop-k.invariant.0) in
    rw whole at c.loop-k.invariant.1
