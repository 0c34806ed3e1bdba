-- Each return is one case of the outcome.
use mathlib.Core.Path.{sym, subst}
use Rattle.outcomes.specs.Feeding.{FeedsIn}
use Rattle.feeding.proofs.Feeding.{too_small, counted_over, counted_faulty}
use Rattle.feeding.proofs.feed_in.Goals as goal

pub returns-then-buffer-lt-LIMIT : goal.returns-then-buffer-lt-LIMIT
returns-then-buffer-lt-LIMIT c =
    rw (c.refused.ensures, c.into.ensures)
    (subst (FeedsIn _ _ _ _ _) (sym c.moved.ensures) (too_small _ c.if-buffer-lt-LIMIT.true))

pub returns-then-sum-gt-LIMIT : goal.returns-then-sum-gt-LIMIT
returns-then-sum-gt-LIMIT c =
    rw (c.refused-then-sum-gt-LIMIT.ensures, c.into-then-sum-gt-LIMIT.ensures)
    (counted_over _ _ _ c.if-buffer-lt-LIMIT.false c.total_with-sum.ensures c.moved-then-sum-gt-LIMIT.ensures
    c.if-sum-gt-LIMIT.true)

pub returns-then-place-before : goal.returns-then-place-before
returns-then-place-before c =
    rw c.refused-then-place-before.ensures
    (counted_faulty _ _ _ c.if-buffer-lt-LIMIT.false c.total_with-sum.ensures c.moved-then-place-before.ensures
    c.if-sum-gt-LIMIT.false c.if-place-before.true)
