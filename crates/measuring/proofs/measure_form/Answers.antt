-- What is counted and what is left make the whole at each turn, until the limit is passed.
use native.Mathlib.Omega.{arith}
use Rattle.kinds.proofs.Counted.{from_first}
use Rattle.tables.proofs.InGood.{link_slots, params_slots}
use Rattle.shape.proofs.GoodRecords.{target_span, good_run}
use Rattle.measuring.proofs.MeasuredUpTo.{form_begin, form_end, form_over, form_more, link_added}
use Rattle.measuring.proofs.measure_form.Goals as goal

pub loop-i-init : goal.loop-i-init
loop-i-init g c = form_begin _ _

pub link_at-l-requires : goal.link_at-l-requires
link_at-l-requires g c =
    rw (from_first c.first-first_link.ensures c.plus-link.ensures) (link_slots c.requires.good c.loop-i-test.true)

pub len-target-requires : goal.len-target-requires
len-target-requires g c =
    let if1' = c.loop-i-test in
    (target_span c.requires.good if1'.true (rw (from_first c.first-first_link.ensures c.plus-link.ensures) at c.link_at-l.ensures)).ordered

pub overflow_add-target : goal.overflow_add-target
overflow_add-target g c =
    let loop' = c.loop-i in
    let if1' = c.loop-i-test in
    let is = rw (from_first c.first-first_link.ensures c.plus-link.ensures) at c.link_at-l.ensures in
    omega (
      arith,
      link_added loop'.invariant c.requires if1'.true is c.parting_len-parting.ensures c.len-target.ensures,
    )

pub plus-end-requires : goal.plus-end-requires
plus-end-requires g c =
    let if1' = c.loop-i-test in
    let is = rw (from_first c.first-first_link.ensures c.plus-link.ensures) at c.link_at-l.ensures in
    omega (
      arith,
      params_slots c.requires.good if1'.true,
      is.first,
      is.count,
      c.told-t,
    )

pub overflow_add-n : goal.overflow_add-n
overflow_add-n g c =
    let loop' = c.loop-i in
    let if1' = c.loop-i-test in
    let is = rw (from_first c.first-first_link.ensures c.plus-link.ensures) at c.link_at-l.ensures in
    let parting-len' = c.parting_len-parting in
    let few =
    link_added loop'.invariant c.requires if1'.true is parting-len'.ensures c.len-target.ensures
    in
    omega (arith, few, c.if-n-gt-LIMIT.false)

pub overflow_add-n-in-loop-i : goal.overflow_add-n-in-loop-i
overflow_add-n-in-loop-i g c =
    let loop' = c.loop-i in
    let if1' = c.loop-i-test in
    let is = rw (from_first c.first-first_link.ensures c.plus-link.ensures) at c.link_at-l.ensures in
    let parting-len' = c.parting_len-parting in
    let few =
    link_added loop'.invariant c.requires if1'.true is parting-len'.ensures c.len-target.ensures
    in
    omega (arith, few, c.if-n-gt-LIMIT.false)

pub measure_params-n-requires : goal.measure_params-n-requires
measure_params-n-requires g c =
    let if1' = c.loop-i-test in
    let is = rw (from_first c.first-first_link.ensures c.plus-link.ensures) at c.link_at-l.ensures in
    record {
      good_run = rw c.plus-end.ensures (good_run c.requires.good if1'.true is);
      text_len_bound = c.requires.short;
    }

pub loop-i-preserved : goal.loop-i-preserved
loop-i-preserved g c =
    let loop' = c.loop-i in
    let if1' = c.loop-i-test in
    let is = rw (from_first c.first-first_link.ensures c.plus-link.ensures) at c.link_at-l.ensures in
    let parting-len' = c.parting_len-parting in
    let len' = c.len-target in
    let measured = rw c.plus-end.ensures at c.measure_params-n.ensures in
    form_more loop'.invariant c.requires if1'.true is parting-len'.ensures len'.ensures
    c.if-n-gt-LIMIT.false measured

pub returns-then-n-gt-LIMIT : goal.returns-then-n-gt-LIMIT
returns-then-n-gt-LIMIT g c =
    form_over c.loop-i.invariant c.if-n-gt-LIMIT.true

pub returns : goal.returns
returns g c = form_end c.loop-i.invariant c.loop-i-test.false
