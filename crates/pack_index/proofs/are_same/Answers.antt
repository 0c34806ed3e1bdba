-- Behind place i the octets are the same; blocks first, then octets.
use Prim.Native.Nat.{◌-◌}
use native.Mathlib.Omega.{arith}
use Rattle.pack_index.proofs.SameEnds.{at_the_end, one_before, block_before, same_all, other_lengths, other_octet}
use Rattle.pack_index.proofs.are_same.Goals as goal

pub returns-then-u-v : goal.returns-then-u-v
returns-then-u-v c = other_lengths c.args.u.now c.args.v.now c.if-u-v.true

pub loop-i-init : goal.loop-i-init
loop-i-init c = at_the_end c.if-u-v.false

pub is_same_block-requires : goal.is_same_block-requires
is_same_block-requires c =
    let at = c.loop-i.invariant in
    (omega (arith, at.inside, c.loop-i-test.true), omega (arith, at.inside, at.lengths, c.loop-i-test.true))

pub loop-i-smaller : goal.loop-i-smaller
loop-i-smaller c = omega (arith, c.loop-i-test.true)

pub loop-i-preserved : goal.loop-i-preserved
loop-i-preserved c = block_before 16 c.loop-i.invariant (omega (arith, c.loop-i-test.true)) (c.is_same_block.ensures c.if-is_same_block.true)

pub loop-k-init : goal.loop-k-init
loop-k-init c = c.loop-i.invariant

pub bounds-u-k : goal.bounds-u-k
bounds-u-k c = omega (arith, c.loop-k.invariant.inside, c.loop-k-test.true)

pub bounds-v-k : goal.bounds-v-k
bounds-v-k c = omega (arith, c.loop-k.invariant.inside, c.loop-k.invariant.lengths, c.loop-k-test.true)

pub returns-then-u-k : goal.returns-then-u-k
returns-then-u-k c = other_octet c.args.u.now c.args.v.now (c.loop-k.k - 1) c.if-u-k.true

pub loop-k-preserved : goal.loop-k-preserved
loop-k-preserved c = one_before c.loop-k.invariant c.loop-k-test.true c.if-u-k.false

pub returns : goal.returns
returns c = same_all c.loop-k.invariant c.loop-k-test.false
