-- Each return is one case of the outcome.
use native.Mathlib.Omega.{arith}
use mathlib.Core.Path.{sym}
use lib.Seq.{length-take-le}
use Rattle.feeding.proofs.Finishing.{too_small, too_long, faulty, reads}
use Rattle.feeding.proofs.finish_in.Goals as goal

pub returns-then-gathered-lt-LIMIT : goal.returns-then-gathered-lt-LIMIT
returns-then-gathered-lt-LIMIT c = rw c.into.ensures (too_small _ c.if-gathered-lt-LIMIT.true)

pub returns-then-total-gt-LIMIT : goal.returns-then-total-gt-LIMIT
returns-then-total-gt-LIMIT c =
    rw c.into-then-total-gt-LIMIT.ensures (too_long _ c.if-gathered-lt-LIMIT.false c.if-total-gt-LIMIT.true)

pub returns-then-place-total : goal.returns-then-place-total
returns-then-place-total c = faulty _ c.if-gathered-lt-LIMIT.false c.if-total-gt-LIMIT.false c.if-place-total.true

pub slice_bounds-read_in-end : goal.slice_bounds-read_in-end
slice_bounds-read_in-end c =
    let a = c.args in
    sym (length-take-le a.state.total a.gathered.now (omega (arith, c.if-total-gt-LIMIT.false, c.if-gathered-lt-LIMIT.false)))

pub returns : goal.returns
returns c =
    reads _ c.if-gathered-lt-LIMIT.false c.if-total-gt-LIMIT.false c.if-place-total.false c.read_in.ensures
