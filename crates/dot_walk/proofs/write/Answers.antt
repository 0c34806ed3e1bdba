-- What is passed is stored at each turn.
use Prim.Native.Nat.{◌-◌}
use native.Mathlib.Omega.{arith}
use mathlib.Core.Path.{ap}
use lib.ListN.{get_or}
use Rattle.resolution.specs.declared.Walk.{Walk}
use Rattle.dot_walk.proofs.Leftwards.{kept_small, pending_small, added_three}
use Rattle.dot_walk.proofs.Writing as w
use Rattle.dot_walk.proofs.write.Goals as goal

pub loop-i-init : goal.loop-i-init
loop-i-init c =
    w.begin _ _ _ _ _ _ c.requires.in_text.0.ordered c.requires.begun_bound.0

pub passed-n-requires : goal.passed-n-requires
passed-n-requires c =
    let loop' = c.loop-i in
    let given = c.args in
    let i = loop'.invariant in
    let s = given.s.now in
    let to = given.part.to.0 in
    let k = kept_small s to given.begun c.requires.in_text.0.inside c.requires.in_text.1 c.requires.kept_bound.0 c.requires.kept_bound.1 loop'.i in
    let q = pending_small s to given.begun c.requires.in_text.0.inside c.requires.in_text.1 c.requires.kept_bound.0 c.requires.kept_bound.1 loop'.i in
    (omega (arith, q, ap (λ (t : Walk). t.pending) i.state), omega (arith, k, ap (λ (t : Walk). t.kept) i.state))

pub overflow_sub-right : goal.overflow_sub-right
overflow_sub-right c =
    let loop' = c.loop-i in
    omega (arith, loop'.invariant.room)

pub overflow_sub-n : goal.overflow_sub-n
overflow_sub-n c =
    let passed' = c.passed-n in
    let test = c.loop-i-test in
    let loop' = c.loop-i in
    omega (arith, w.grows _ _ _ _ _ _ passed'.result loop'.invariant test.true c.requires.in_text.0.inside passed'.ensures)

pub put_before-requires : goal.put_before-requires
put_before-requires c =
    let passed' = c.passed-n in
    let test = c.loop-i-test in
    let loop' = c.loop-i in
    let given = c.args in
    let i = loop'.invariant in
    let h = test.true in
    let l = c.requires.in_text.0.inside in
    let t = loop'.t in
    let n = passed'.result in
    let g = w.grows _ _ _ _ _ _ n i h l passed'.ensures in
    let r = w.room_left _ _ _ _ _ _ n i h l passed'.ensures in
    let three = added_three t (get_or given.s.now (loop'.i - 1) 0) in
    (omega (arith, g, three), omega (arith, g, r), omega (arith, w.same_length _ _ _ _ _ _ i, c.requires.begun_bound.1))

pub loop-i-preserved : goal.loop-i-preserved
loop-i-preserved c =
    let put-before' = c.put_before in
    let passed' = c.passed-n in
    let test = c.loop-i-test in
    let loop' = c.loop-i in
    w.again _ _ _ _ _ _ passed'.result loop'.invariant test.true c.requires.in_text.0.inside passed'.ensures put-before'.ensures

pub shape_of-out : goal.shape_of-out
shape_of-out c = w.same_length _ _ _ _ _ _ c.loop-i.invariant

pub returns : goal.returns
returns c = w.finish _ _ _ _ _ _ c.loop-i.invariant (omega (arith, c.loop-i-test.false))
