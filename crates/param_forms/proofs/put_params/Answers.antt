-- What is left of the parameters is put one by one.
use Prim.Native.Nat.{◌+◌, ◌-◌}
use native.Mathlib.Omega.{arith}
use native.Mathlib.Nat.{add-zero}
use borrow.Author.Rules.{rules}
use Rattle.kinds.proofs.Counted.{before_end, behind_end, one_more}
use Rattle.records.specs.Slots.{to_param}
use Rattle.shape.specs.Forms.{param_form, params_left}
use Rattle.shape.proofs.LeftToWrite.{params_next, params_end}
use Rattle.shape.proofs.GoodRecords.{in_room, good_next}
use Rattle.putting.proofs.PutUpTo.{start as begun, slots, steps, ended}
use Rattle.param_forms.proofs.put_params.Goals as goal

pub loop-k-init : goal.loop-k-init
loop-k-init c =
    let left = params_left c.args.text.now c.args.params.now c.args.end.0 in
    rw (add-zero c.args.first.0)
    (begun left c.args.end.0 c.args.out.now c.args.at.0 c.args.first.0
    c.requires.good_run.ordered c.requires.first_in_bounds)

pub parts_at-param-requires : goal.parts_at-param-requires
parts_at-param-requires c =
    rw c.plus-p.ensures
    (in_room c.requires.good_run (omega arith) (before_end c.args.first.0 c.args.end.0 c.up_to-k-end.ensures c.loop-k-test.true))

pub put_param-to-requires : goal.put_param-to-requires
put_param-to-requires c =
    let here = before_end c.args.first.0 c.args.end.0 c.up_to-k-end.ensures c.loop-k-test.true in
    let is = rw c.plus-p.ensures at c.parts_at-param.ensures in
    let loop' = c.loop-k in
    let form = param_form c.args.text.now (to_param c.parts_at-param.result) in
    let next_one = params_next c.args.text.now c.args.params.now here is in record {
      good_param = good_next c.requires.good_run (omega arith) here is;
      p_in_bounds = slots loop'.invariant form (c.args.first.0 + loop'.k) next_one;
    }

pub loop-k-preserved : goal.loop-k-preserved
loop-k-preserved c =
    let here = before_end c.args.first.0 c.args.end.0 c.up_to-k-end.ensures c.loop-k-test.true in
    let is = rw c.plus-p.ensures at c.parts_at-param.ensures in
    let loop' = c.loop-k in
    let form = param_form c.args.text.now (to_param c.parts_at-param.result) in
    let next_one = params_next c.args.text.now c.args.params.now here is in
    rw (one_more c.args.first.0 loop'.k)
    (steps loop'.invariant form (c.args.first.0 + loop'.k) next_one here c.put_param-to.ensures)

pub shape_of-out : goal.shape_of-out
shape_of-out c = c.loop-k.invariant.put.lengths

pub returns : goal.returns
returns c =
    let loop' = c.loop-k in
    let none = behind_end c.args.first.0 c.args.end.0 c.up_to-k-end.ensures c.loop-k-test.false in
    ended loop'.invariant (params_end c.args.text.now c.args.params.now none)
