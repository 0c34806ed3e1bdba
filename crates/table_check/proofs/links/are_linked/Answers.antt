-- The loop passes the links: those that are left, with what their parameters begin at, tell whether all follow with good targets.
use native.Mathlib.Omega.{arith}
use borrow.Author.Tests.{ltb-false, not-true, not-false}
use Rattle.kinds.proofs.Counted.{from_first}
use Rattle.table_check.proofs.OfLinks.{begin, elsewhere, too_many, bad_target, passed, through}
use Rattle.table_check.proofs.links.are_linked.Goals as goal
use Rattle.table_check.proofs.links.are_linked.Goals.{then-l-next-via-then-l-next, then-l-next-via-else-l-next+then-l-left, then-l-next-via-else-l-next+else-l-left+then-not-is_good_target}

pub loop-i-init : goal.loop-i-init
loop-i-init c = rw c.first-next.ensures (begin _ _ _ _)

pub link_at-l-requires : goal.link_at-l-requires
link_at-l-requires c = omega (arith, c.loop-i-test.true, c.requires, c.first-first_link.ensures, c.plus-link.ensures)

pub overflow_sub-left : goal.overflow_sub-left
overflow_sub-left c = c.loop-i.invariant.below

pub returns-then-l-next : goal.returns-then-l-next
returns-then-l-next c =
    let loop' = c.loop-i in
    let is = rw (from_first c.first-first_link.ensures c.plus-link.ensures) at c.link_at-l.ensures in
    elim c.then-l-next.branch [
      | then-l-next-via-then-l-next w ↦ elsewhere loop'.invariant c.loop-i-test.true is w.if-l-next.true
      | then-l-next-via-else-l-next+then-l-left w ↦ too_many loop'.invariant c.loop-i-test.true is w.if-l-left.true
      | then-l-next-via-else-l-next+else-l-left+then-not-is_good_target w ↦
          bad_target loop'.invariant c.loop-i-test.true is
          (w.is_good_target.ensures.fails (not-true _ w.if-not-is_good_target.true-raw))
    ]

pub plus-next-requires : goal.plus-next-requires
plus-next-requires c =
    omega (arith, ltb-false, c.if-l-left.false-raw, c.loop-i.invariant.below, c.well_formed.1.1.0.1)

pub loop-i-preserved : goal.loop-i-preserved
loop-i-preserved c =
    let loop' = c.loop-i in
    let is-good-target' = c.is_good_target in
    rw c.plus-next.ensures
    (passed loop'.invariant c.loop-i-test.true (rw (from_first c.first-first_link.ensures c.plus-link.ensures) at c.link_at-l.ensures) c.if-l-next.false (ltb-false _ _ c.if-l-left.false-raw)
    (is-good-target'.ensures.holds (not-false _ c.if-not-is_good_target.false-raw)))

pub returns : goal.returns
returns c = through c.loop-i.invariant c.loop-i-test.false
