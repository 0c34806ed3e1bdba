-- Whether all octets so far are none. Assumes nothing.
use native.Mathlib.Omega.{arith}
use mathlib.Core.Path.{◌≡◌}
use Rattle.cursor.proofs.AllInBlock.{all_none, all_more}
use Rattle.blocks.specs.Others.{other_than}
use Rattle.blocks.proofs.none_is.Goals as goal

pub loop-k-init : goal.loop-k-init
loop-k-init g c = all_none (other_than g.row.C) c.args.s.now c.args.at

pub loop-k-preserved : goal.loop-k-preserved
loop-k-preserved g c =
    let at = c.loop-k in
    all_more (other_than g.row.C) c.args.s.now c.args.at at.k at.invariant (omega (arith, c.loop-k-test.true, c.requires))

pub returns : goal.returns
returns g c =
    let whole : c.loop-k.k ≡ 16 = omega (arith, c.loop-k-test.false) in
    rw whole at c.loop-k.invariant
