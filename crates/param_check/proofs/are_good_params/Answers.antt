-- The loop passes the parameters: those that are left, behind the names that have been seen, tell what all of them are.
use Prim.Native.Nat.{◌-◌}
use native.Mathlib.Omega.{arith}
use borrow.Author.Tests.{not-true, not-false}
use Rattle.param_check.proofs.OfParams.{begin, bad_param, repeated, passed, through}
use Rattle.param_check.proofs.are_good_params.Goals as goal

pub loop-k-init : goal.loop-k-init
loop-k-init c = begin c.none-seen.ensures

pub plus-requires : goal.plus-requires
plus-requires c = omega arith

pub param_at-p-requires : goal.param_at-p-requires
param_at-p-requires c = omega (arith, c.plus.ensures)

pub returns-then-not-is_good_param : goal.returns-then-not-is_good_param
returns-then-not-is_good_param c =
    bad_param c.loop-k.invariant c.loop-k-test.true c.plus.ensures c.param_at-p.ensures
    (c.is_good_param.ensures.fails (not-true _ c.if-not-is_good_param.true-raw))

pub returns-then-has : goal.returns-then-has
returns-then-has c =
    let so = c.is_good_param.ensures.holds (not-false _ c.if-not-is_good_param.false-raw) in
    repeated c.loop-k.invariant c.loop-k-test.true c.plus.ensures c.param_at-p.ensures so
    c.has.ensures c.if-has.true

pub loop-k-preserved : goal.loop-k-preserved
loop-k-preserved c =
    let so = c.is_good_param.ensures.holds (not-false _ c.if-not-is_good_param.false-raw) in
    passed c.loop-k.invariant c.loop-k-test.true c.plus.ensures c.param_at-p.ensures so
    c.has.ensures c.if-has.false c.with-seen.ensures

pub returns : goal.returns
returns c = through c.loop-k.invariant c.loop-k-test.false
