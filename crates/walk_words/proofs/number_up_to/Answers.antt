-- The loop has read the digits so far.
use Prim.Native.Nat.{◌-◌}
use native.Mathlib.Omega.{arith}
use mathlib.Core.Path.{sym, ◌∙◌}
use borrow.Author.Tests.{not-true, not-false}
use Rattle.walk_words.proofs.Reading.{begin, one_more, other, all_read, no_digits, more_digits_lem}
use Rattle.walk_words.proofs.number_up_to.Goals as goal

pub returns-then-word-eq0 : goal.returns-then-word-eq0
returns-then-word-eq0 c = (no_digits c.args.word.now c.args.digits c.args.most (omega arith), omega arith)

pub returns-then-word-digits : goal.returns-then-word-digits
returns-then-word-digits c = (more_digits_lem c.args.word.now c.args.digits c.args.most (omega arith), omega arith)

pub loop-c-init : goal.loop-c-init
loop-c-init c = begin c.args.word.now c.args.most

pub returns-then-not-is_digit : goal.returns-then-not-is_digit
returns-then-not-is_digit c = (
  other c.loop-c.invariant c.args.digits c.loop-c-test.true (sym c.is_digit.ensures ∙ not-true c.is_digit.result c.if-not-is_digit.true-raw),
  omega arith,
)

pub with_digit-n-requires : goal.with_digit-n-requires
with_digit-n-requires c = sym c.is_digit.ensures ∙ not-false c.is_digit.result c.if-not-is_digit.false-raw

pub loop-c-preserved : goal.loop-c-preserved
loop-c-preserved c =
    rw c.with_digit-n.ensures
    (one_more c.loop-c.invariant c.loop-c-test.true
    (sym c.is_digit.ensures ∙ not-false c.is_digit.result c.if-not-is_digit.false-raw))

pub returns : goal.returns
returns c = (all_read c.loop-c.invariant c.args.digits (omega arith) (omega arith) (omega arith), c.loop-c.invariant.small)
