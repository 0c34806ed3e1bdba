-- Token octets alone have been met, or the first other one decides.
use Prim.Native.Nat.{◌-◌}
use native.Mathlib.Omega.{arith}
use mathlib.Core.Path.{refl, sym, ◌∙◌}
use borrow.Author.Tests.{not-true, not-false}
use Rattle.shape.proofs.TokensUpTo.{token_on, other_here, lone_backslash, other_behind, token_behind, tokens_end}
use Rattle.shape.proofs.means_token.Goals as goal

pub loop-k-init : goal.loop-k-init
loop-k-init c =
    record { inside = c.requires.ordered; forward = omega arith; tokens = refl; some_octet = λ l. absurd (omega arith) }

pub bounds-s-h : goal.bounds-s-h
bounds-s-h c =
    omega (arith, c.loop-k-test.true, c.requires.inside)

pub next-k-requires : goal.next-k-requires
next-k-requires c =
    omega (arith, c.loop-k-test.true, c.requires.inside)

pub loop-k-smaller-then-is_in : goal.loop-k-smaller-then-is_in
loop-k-smaller-then-is_in c = omega (arith, c.next-k.ensures, c.loop-k-test.true)

pub loop-k-preserved-then-is_in : goal.loop-k-preserved-then-is_in
loop-k-preserved-then-is_in c =
    let loop' = c.loop-k in
    let if1' = c.loop-k-test in
    rw c.next-k.ensures
    (token_on loop'.invariant if1'.true c.requires.inside (sym c.is_in.ensures ∙ c.if-is_in.true))

pub returns-then-c-ne92 : goal.returns-then-c-ne92
returns-then-c-ne92 c =
    let loop' = c.loop-k in
    let if1' = c.loop-k-test in
    other_here loop'.invariant if1'.true c.requires.inside (sym c.is_in.ensures ∙ c.if-is_in.false)
    c.if-c-ne92.true

pub next-p-requires : goal.next-p-requires
next-p-requires c =
    omega (arith, c.loop-k-test.true, c.requires.inside)

pub returns-then-p-e : goal.returns-then-p-e
returns-then-p-e c =
    let loop' = c.loop-k in
    let if1' = c.loop-k-test in
    let if3' = c.if-c-ne92 in
    let next' = c.next-p in
    lone_backslash loop'.invariant if1'.true c.requires.inside if3'.false next'.ensures c.if-p-e.true

pub bounds-s-i : goal.bounds-s-i
bounds-s-i c =
    omega (arith, c.if-p-e.false, c.requires.inside)

pub returns-then-not-is_in : goal.returns-then-not-is_in
returns-then-not-is_in c =
    let loop' = c.loop-k in
    let if1' = c.loop-k-test in
    let if3' = c.if-c-ne92 in
    let next' = c.next-p in
    other_behind loop'.invariant if1'.true c.requires.inside if3'.false next'.ensures c.if-p-e.false
    (sym c.is_in-in-loop-k.ensures ∙ not-true _ c.if-not-is_in.true-raw)

pub next-k-requires-in-loop-k : goal.next-k-requires-in-loop-k
next-k-requires-in-loop-k c =
    omega (arith, c.if-p-e.false, c.requires.inside)

pub loop-k-smaller : goal.loop-k-smaller
loop-k-smaller c =
    let if1' = c.loop-k-test in
    omega (arith, c.next-k-in-loop-k.ensures, c.next-p.ensures, if1'.true)

pub loop-k-preserved : goal.loop-k-preserved
loop-k-preserved c =
    let loop' = c.loop-k in
    let if1' = c.loop-k-test in
    let if3' = c.if-c-ne92 in
    let next' = c.next-p in
    let if4' = c.if-p-e in
    rw c.next-k-in-loop-k.ensures
    (token_behind loop'.invariant if1'.true c.requires.inside if3'.false next'.ensures if4'.false
    (sym c.is_in-in-loop-k.ensures ∙ not-false _ c.if-not-is_in.false-raw))

pub returns : goal.returns
returns c = tokens_end c.loop-k.invariant c.loop-k-test.false
