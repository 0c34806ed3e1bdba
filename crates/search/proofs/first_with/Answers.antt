-- The links below l have not got the relation; that link l has it is asked of the parameters that are left, and then of the runs
-- that are left of its `rel` value.
use Prim.Native.Nat.{◌-◌}
use native.Mathlib.Omega.{arith}
use mathlib.Core.Bool.{false}
use Rattle.tables.proofs.InGood.{link_slots, params_slots}
use Rattle.outcomes.specs.Search.{no_link, found}
use Rattle.named.proofs.Looking.{in_room}
use Rattle.search.proofs.Searching.{first_param, next_param, none_related, unrelated}
use Rattle.search.proofs.Searching.{good_here, first_run, next_one, matched, one_more}
use Rattle.search.proofs.first_with.Goals as goal

pub search-init : goal.search-init
search-init c = λ j h. absurd (omega arith)

pub plus-end-requires : goal.plus-end-requires
plus-end-requires c =
    let link-at' = c.link_at-link in
    omega (
      arith,
      params_slots c.requires.good c.if-l-t.false,
      link-at'.ensures.first,
      link-at'.ensures.count,
      c.told-t,
    )

pub loop-p-init : goal.loop-p-init
loop-p-init c =
    rw
    c.plus-end.ensures
    (first_param c.args.relation.now c.requires c.if-l-t.false c.link_at-link.ensures)

pub code_at-requires : goal.code_at-requires
code_at-requires c = in_room c.loop-p.invariant.looking c.loop-p-test.true

pub parts_at-requires : goal.parts_at-requires
parts_at-requires c =
    in_room c.loop-p.invariant.looking c.loop-p-test.true

pub next_run-k-requires : goal.next_run-k-requires
next_run-k-requires c =
    (good_here c.loop-p.invariant c.loop-p-test.true c.parts_at.ensures).value_span

pub loop-k-init : goal.loop-k-init
loop-k-init c =
    first_run c.loop-p.invariant c.loop-p-test.true c.code_at.ensures
    c.parts_at.ensures c.if-code_at-eq-REL.true c.next_run-k.ensures

pub match_run-m-requires : goal.match_run-m-requires
match_run-m-requires c =
    let loop2' = c.loop-k in (c.loop-k-test.true, loop2'.invariant.text, loop2'.invariant.begins c.loop-k-test.true)

pub next_run-k-requires-in-loop-k : goal.next_run-k-requires-in-loop-k
next_run-k-requires-in-loop-k c =
    record { ordered = c.match_run-m.ensures.inside; inside = c.loop-k.invariant.text }

pub loop-k-smaller : goal.loop-k-smaller
loop-k-smaller c =
    omega (arith, c.next_run-k-in-loop-k.ensures.forward, c.match_run-m.ensures.forward, c.loop-k-test.true)

pub loop-k-preserved : goal.loop-k-preserved
loop-k-preserved c =
    let loop2' = c.loop-k in
    next_one loop2'.invariant c.match_run-m.ensures c.if-m.false c.next_run-k-in-loop-k.ensures

pub loop-p-smaller-then-code_at-eq-REL : goal.loop-p-smaller-then-code_at-eq-REL
loop-p-smaller-then-code_at-eq-REL c = omega (arith, c.loop-p-test.true)

pub loop-p-preserved-then-code_at-eq-REL : goal.loop-p-preserved-then-code_at-eq-REL
loop-p-preserved-then-code_at-eq-REL c =
    let loop' = c.loop-p in
    unrelated loop'.invariant c.loop-k.invariant c.loop-k-test.false

pub next-p-requires : goal.next-p-requires
next-p-requires c =
    omega (arith, in_room c.loop-p.invariant.looking c.loop-p-test.true, c.told-t)

pub loop-p-smaller : goal.loop-p-smaller
loop-p-smaller c = omega (arith, c.next-p.ensures, c.loop-p-test.true)

pub loop-p-preserved : goal.loop-p-preserved
loop-p-preserved c =
    rw c.next-p.ensures
    (next_param c.loop-p.invariant c.loop-p-test.true c.code_at.ensures c.if-code_at-eq-REL.false)

pub search-smaller : goal.search-smaller
search-smaller c = omega (arith, c.next-l.ensures, c.if-l-t.false)

pub search-preserved : goal.search-preserved
search-preserved c =
    let search' = c.search in rw c.next-l.ensures
    (one_more search'.invariant (none_related c.loop-p.invariant c.loop-p-test.false))

pub returns-then-l-t : goal.returns-then-l-t
returns-then-l-t c =
    no_link (λ i h. c.search.invariant i (omega (arith, c.if-l-t.true)))

pub returns-then-m : goal.returns-then-m
returns-then-m c =
    let loop' = c.loop-p in let loop2' = c.loop-k in let search' = c.search in found loop'.invariant.is_link
    (matched loop2'.invariant c.match_run-m.ensures c.if-m.true) search'.invariant
