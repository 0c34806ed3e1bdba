-- What is dropped, what is counted and what is left make the whole at each turn.
use Prim.Native.Nat.{◌-◌}
use native.Mathlib.Omega.{arith}
use Rattle.tables.proofs.Texts.{inside_le}
use Rattle.shape.proofs.DroppedUpTo.{drop_begin, drop_none, pair_inside, drop_more, drop_end}
use Rattle.shape.proofs.quoted_len.Goals as goal

pub loop-k-init : goal.loop-k-init
loop-k-init c = drop_begin c.requires.inside

pub bounds-s-h : goal.bounds-s-h
bounds-s-h c =
    omega (arith, c.loop-k-test.true, c.requires.in_text.inside)

pub next-p-requires : goal.next-p-requires
next-p-requires c =
    omega (arith, c.loop-k-test.true, c.requires.in_text.inside)

pub bounds-s-i : goal.bounds-s-i
bounds-s-i c =
    let loop' = c.loop-k in
    let if1' = c.loop-k-test in
    omega (
      arith,
      pair_inside loop'.invariant if1'.true c.requires.in_text.inside c.if-c-eq92.true c.next-p.ensures,
      c.requires.in_text.inside,
    )

pub overflow_add-dropped : goal.overflow_add-dropped
overflow_add-dropped c =
    let loop' = c.loop-k in
    let if1' = c.loop-k-test in
    omega (arith, loop'.invariant.few, if1'.true, c.dropped_before-dropped.ensures, c.requires.in_text.inside, c.requires.s_len_bound)

pub next-k-requires : goal.next-k-requires
next-k-requires c =
    let loop' = c.loop-k in
    let if1' = c.loop-k-test in
    let if2' = c.if-c-eq92 in
    omega (
      arith,
      pair_inside loop'.invariant if1'.true c.requires.in_text.inside if2'.true c.next-p.ensures,
      c.requires.in_text.inside,
    )

pub loop-k-smaller-then-c-eq92 : goal.loop-k-smaller-then-c-eq92
loop-k-smaller-then-c-eq92 c =
    let if1' = c.loop-k-test in
    omega (arith, c.next-k.ensures, c.next-p.ensures, if1'.true)

pub loop-k-preserved-then-c-eq92 : goal.loop-k-preserved-then-c-eq92
loop-k-preserved-then-c-eq92 c =
    let loop' = c.loop-k in
    let if1' = c.loop-k-test in
    let if2' = c.if-c-eq92 in
    let next' = c.next-p in
    rw c.next-k.ensures
    (drop_more loop'.invariant if1'.true c.requires.in_text.inside if2'.true next'.ensures
    c.dropped_before-dropped.result c.dropped_before-dropped.ensures c.is_in-tokens.ensures)

pub next-k-requires-in-loop-k : goal.next-k-requires-in-loop-k
next-k-requires-in-loop-k c =
    omega (arith, c.loop-k-test.true, c.requires.in_text.inside)

pub loop-k-smaller : goal.loop-k-smaller
loop-k-smaller c = omega (arith, c.next-k-in-loop-k.ensures, c.loop-k-test.true)

pub loop-k-preserved : goal.loop-k-preserved
loop-k-preserved c =
    let loop' = c.loop-k in
    let if1' = c.loop-k-test in
    rw c.next-k-in-loop-k.ensures
    (drop_none loop'.invariant if1'.true c.requires.in_text.inside c.if-c-eq92.false c.is_in-tokens-in-loop-k.ensures)

pub len-requires : goal.len-requires
len-requires c =
    c.requires.in_text.ordered

pub overflow_sub-len : goal.overflow_sub-len
overflow_sub-len c =
    let loop' = c.loop-k in
    omega (arith, c.len.ensures, loop'.invariant.few, inside_le c.args.s.now loop'.invariant.inside)

pub len_for-requires : goal.len_for-requires
len_for-requires c =
    omega (arith, c.len.ensures, c.requires.in_text.inside, c.requires.s_len_bound)

pub returns : goal.returns
returns c =
    let loop' = c.loop-k in
    drop_end loop'.invariant c.loop-k-test.false c.len.ensures c.len_for.ensures
