-- What is counted and what is left make the whole at each turn, and no sum is taken past the limit.
use native.Mathlib.Omega.{arith}
use native.Mathlib.Nat.{add-zero}
use mathlib.Core.Path.{refl}
use Rattle.kinds.proofs.Counted.{before_end, behind_end, one_more}
use Rattle.measuring.proofs.MeasuredUpTo.{all_measured, over_limit, good_here, added, measure_more}
use Rattle.measuring.proofs.measure_params.Goals as goal

pub loop-k-init : goal.loop-k-init
loop-k-init g c =
    rw (add-zero c.args.first.0)
    (record { run = c.requires.good_run; short = c.requires.text_len_bound; whole = record { enough = omega arith; same = λ _. refl } })

pub parts_at-param-requires : goal.parts_at-param-requires
parts_at-param-requires g c = omega (arith, c.loop-k.invariant.run.room, c.loop-k-test.true, c.up_to-k-end.ensures, c.plus-p.ensures)

pub len-requires : goal.len-requires
len-requires g c =
    let loop' = c.loop-k in
    (good_here loop'.invariant (before_end c.args.first.0 c.args.end.0 c.up_to-k-end.ensures c.loop-k-test.true) (rw c.plus-p.ensures at c.parts_at-param.ensures)).name_span.ordered

pub measure_value-requires : goal.measure_value-requires
measure_value-requires g c =
    let loop' = c.loop-k in
    let here = before_end c.args.first.0 c.args.end.0 c.up_to-k-end.ensures c.loop-k-test.true in
    record {
      good_param = good_here loop'.invariant here (rw c.plus-p.ensures at c.parts_at-param.ensures);
      text_len_bound = loop'.invariant.short;
    }

pub overflow_add-n : goal.overflow_add-n
overflow_add-n g c =
    let loop' = c.loop-k in
    let here = before_end c.args.first.0 c.args.end.0 c.up_to-k-end.ensures c.loop-k-test.true in
    let is = rw c.plus-p.ensures at c.parts_at-param.ensures in
    let len' = c.len in
    omega (arith, added loop'.invariant here is len'.ensures c.measure_value.ensures)

pub overflow_add-n-in-loop-k : goal.overflow_add-n-in-loop-k
overflow_add-n-in-loop-k g c =
    let loop' = c.loop-k in
    let here = before_end c.args.first.0 c.args.end.0 c.up_to-k-end.ensures c.loop-k-test.true in
    let is = rw c.plus-p.ensures at c.parts_at-param.ensures in
    let len' = c.len in
    omega (arith, added loop'.invariant here is len'.ensures c.measure_value.ensures)

pub overflow_add-n-in-loop-k-2 : goal.overflow_add-n-in-loop-k-2
overflow_add-n-in-loop-k-2 g c =
    let loop' = c.loop-k in
    let here = before_end c.args.first.0 c.args.end.0 c.up_to-k-end.ensures c.loop-k-test.true in
    let is = rw c.plus-p.ensures at c.parts_at-param.ensures in
    let len' = c.len in
    let few = added loop'.invariant here is len'.ensures c.measure_value.ensures in
    omega (arith, few, c.if-n-gt-LIMIT.false)

pub loop-k-preserved : goal.loop-k-preserved
loop-k-preserved g c =
    let loop' = c.loop-k in
    let here = before_end c.args.first.0 c.args.end.0 c.up_to-k-end.ensures c.loop-k-test.true in
    let is = rw c.plus-p.ensures at c.parts_at-param.ensures in
    rw (one_more c.args.first.0 loop'.k) (measure_more loop'.invariant here is c.len.ensures c.measure_value.ensures)

pub returns-then-n-gt-LIMIT : goal.returns-then-n-gt-LIMIT
returns-then-n-gt-LIMIT g c =
    over_limit c.loop-k.invariant c.if-n-gt-LIMIT.true

pub returns : goal.returns
returns g c = all_measured c.loop-k.invariant (behind_end c.args.first.0 c.args.end.0 c.up_to-k-end.ensures c.loop-k-test.false)
