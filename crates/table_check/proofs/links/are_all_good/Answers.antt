-- The loop passes the links: the parameters of those below number i are good.
use native.Mathlib.Omega.{arith}
use borrow.Author.Tests.{not-true, not-false}
use Rattle.kinds.proofs.Counted.{from_first}
use Rattle.part_check.proofs.Deciding.{is_so, not_so}
use Rattle.table_check.proofs.GoodParts.{in_room, one_more, here}
use Rattle.table_check.proofs.links.are_all_good.Goals as goal

pub loop-i-init : goal.loop-i-init
loop-i-init c = λ j l. absurd (omega arith)

pub link_at-l-requires : goal.link_at-l-requires
link_at-l-requires c = omega (arith, c.loop-i-test.true, c.requires.link_room, c.first-first.ensures, c.plus-link.ensures)

pub are_good_params-requires : goal.are_good_params-requires
are_good_params-requires c = (in_room c.requires c.loop-i-test.true (rw (from_first c.first-first.ensures c.plus-link.ensures) at c.link_at-l.ensures))

pub returns-then-not-are_good_params : goal.returns-then-not-are_good_params
returns-then-not-are_good_params c =
    not_so (λ g. c.are_good_params.ensures.fails (not-true _ c.if-not-are_good_params.true-raw) (here (rw (from_first c.first-first.ensures c.plus-link.ensures) at c.link_at-l.ensures) (g _ c.loop-i-test.true)))

pub loop-i-preserved : goal.loop-i-preserved
loop-i-preserved c =
    (one_more (rw (from_first c.first-first.ensures c.plus-link.ensures) at c.link_at-l.ensures) c.loop-i.invariant
    (c.are_good_params.ensures.holds (not-false _ c.if-not-are_good_params.false-raw)))

pub returns : goal.returns
returns c = is_so (λ j l. c.loop-i.invariant j (omega (arith, c.loop-i-test.false)))
