-- The count and what is left make the whole length at each turn.
use native.Mathlib.Omega.{arith}
use mathlib.Core.Path.{refl, ap}
use lib.ListN.{length}
use Rattle.bare.proofs.Bare.{bare_of_none}
use Rattle.bare.proofs.Passing.{over_backslash, over_octet}
use Rattle.bare.proofs.bare_len.Goals as goal

pub loop-at-preserved-then-s-at-eq92 : goal.loop-at-preserved-then-s-at-eq92
loop-at-preserved-then-s-at-eq92 c =
    let step = over_backslash c.args.s.now refl c.loop-at-test.true c.requires.inside c.if-s-at-eq92.true in
    omega (arith, ap length step)

pub loop-at-preserved : goal.loop-at-preserved
loop-at-preserved c =
    let step = over_octet c.args.s.now refl c.loop-at-test.true c.requires.inside c.if-s-at-eq92.false in
    omega (arith, ap length step)

pub returns : goal.returns
returns c =
    omega (arith, ap length (bare_of_none c.args.s.now _ _ c.loop-at-test.false))
