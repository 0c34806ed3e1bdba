-- A value that isn't too long is judged, and what it gives is written.
use native.Mathlib.Omega.{arith}
use borrow.Author.Rules.{rules}
use Rattle.outcomes.specs.Decode.{too_long}
use Rattle.decoding.proofs.Judging.{right_given, right_counted}
use Rattle.titles.proofs.Decoding.{is_wrong, is_given_lem}
use Rattle.titles.proofs.decode.Goals as goal

pub returns-then-end-gt-LIMIT : goal.returns-then-end-gt-LIMIT
returns-then-end-gt-LIMIT c = too_long c.if-end-gt-LIMIT.true

pub write_given-requires : goal.write_given-requires
write_given-requires c =
    let right = rw c.in-Some.is at c.judge-judged.ensures in
    (omega (arith, c.up_to-part.ensures.1), right_given right, right_counted right)

pub returns-in-None : goal.returns-in-None
returns-in-None c =
    let e = c.up_to-part.ensures in
    let wrong = rw (e.0, e.1, c.in-None.is) at c.judge-judged.ensures in
    is_wrong c.args.value.now c.if-end-gt-LIMIT.false c.args.out.now wrong

pub returns-in-Some : goal.returns-in-Some
returns-in-Some c =
    let e = c.up_to-part.ensures in
    let right = rw (e.0, e.1, c.in-Some.is) at c.judge-judged.ensures in
    is_given_lem c.args.value.now c.if-end-gt-LIMIT.false right (rw e.1 at c.write_given.ensures)
