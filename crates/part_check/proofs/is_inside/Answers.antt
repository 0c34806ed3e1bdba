-- Runs of plain octets and pairs are passed; where neither stands before the end, the part is no inside.
use Prim.Native.Nat.{◌-◌}
use native.Mathlib.Omega.{arith}
use mathlib.Core.Path.{sym}
use lib.Seq.{length-take-le}
use borrow.Author.Rules.{rules}
use borrow.Author.Tests.{not-true, not-false}
use Rattle.part_check.proofs.InsideUpTo.{begin, since, more, no_more, whole}
use Rattle.part_check.proofs.is_inside.Goals as goal

pub slice_bounds-past_plain-end : goal.slice_bounds-past_plain-end
slice_bounds-past_plain-end c = sym (length-take-le _ _ c.requires.inside)

pub past_plain-c-requires : goal.past_plain-c-requires
past_plain-c-requires c = (
    rw (length-take-le c.args.part.to.0 _ c.requires.inside) c.requires.ordered)

pub loop-c-init : goal.loop-c-init
loop-c-init c = begin _ c.requires.inside c.past_plain-c.ensures

pub is_pair-requires : goal.is_pair-requires
is_pair-requires c = (c.loop-c-test.true, c.requires.inside)

pub returns-then-not-is_pair : goal.returns-then-not-is_pair
returns-then-not-is_pair c =
    no_more _ (since _ c.requires.inside c.past_plain-c.ensures c.loop-c.invariant) c.loop-c-test.true
    (c.is_pair.ensures.fails (not-true _ c.if-not-is_pair.true-raw))

pub past_octet-requires : goal.past_octet-requires
past_octet-requires c = (c.is_pair.ensures.holds (not-false _ c.if-not-is_pair.false-raw)).backslash.inside

pub past_octet-requires-in-loop-c : goal.past_octet-requires-in-loop-c
past_octet-requires-in-loop-c c =
    let pair = c.is_pair.ensures.holds (not-false _ c.if-not-is_pair.false-raw) in
    omega (arith, pair.next.inside, c.past_octet.ensures)

pub slice_bounds-past_plain-end-in-loop-c : goal.slice_bounds-past_plain-end-in-loop-c
slice_bounds-past_plain-end-in-loop-c c = sym (length-take-le _ _ c.requires.inside)

pub past_plain-c-requires-in-loop-c : goal.past_plain-c-requires-in-loop-c
past_plain-c-requires-in-loop-c c =
    let pair = c.is_pair.ensures.holds (not-false _ c.if-not-is_pair.false-raw) in (
    rw (length-take-le c.args.part.to.0 _ c.requires.inside)
    (omega (arith, pair.room, c.past_octet-in-loop-c.ensures, c.past_octet.ensures)))

pub loop-c-smaller : goal.loop-c-smaller
loop-c-smaller c =
    omega (
      arith,
      c.past_plain-c-in-loop-c.ensures.forward,
      c.past_octet-in-loop-c.ensures,
      c.past_octet.ensures,
      c.loop-c-test.true,
    )

pub loop-c-preserved : goal.loop-c-preserved
loop-c-preserved c =
    let pair = c.is_pair.ensures.holds (not-false _ c.if-not-is_pair.false-raw) in
    more _ c.loop-c.invariant c.loop-c-test.true pair (omega (arith, c.past_octet-in-loop-c.ensures, c.past_octet.ensures))
    c.requires.inside c.past_plain-c-in-loop-c.ensures

pub returns : goal.returns
returns c =
    whole _ (since _ c.requires.inside c.past_plain-c.ensures c.loop-c.invariant) c.loop-c-test.false
