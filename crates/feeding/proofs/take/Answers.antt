-- A part with a fault, or that closes a target that is no reference, is refused, and one that leads on is stored.
use native.Mathlib.Omega.{arith}
use mathlib.Core.Path.{sym, ap, subst, ◌∙◌}
use lib.ListN.{length}
use lib.Seq.{sets}
use Rattle.outcomes.specs.Feeding.{FeedsIn}
use Rattle.feeding.proofs.Feeding.{all_of, scan_stuck, scan_unfit, scan_through, gets_stuck, gets_refused, goes_on}
use Rattle.feeding.proofs.take.Goals as goal

pub overflow_add-place : goal.overflow_add-place
overflow_add-place c =
    omega (arith, (scan_stuck c.scan_part.ensures c.in-Stuck.is).inside, c.requires.short)

pub put_part-requires : goal.put_part-requires
put_part-requires c =
    let w = c.whole.ensures in
    record {
      in_text = record { ordered = omega (arith, w.0); inside = omega (arith, w.1) };
      s_in_bounds = omega (arith, ap length (all_of c.args.part.now w.0 w.1), c.requires.short, c.requires.large);
    }

pub returns-in-Stuck : goal.returns-in-Stuck
returns-in-Stuck c =
    rw c.refused.ensures
    (subst (FeedsIn _ _ _ _ _) (sym c.moved.ensures)
    (gets_stuck _ c.requires (scan_stuck (rw c.spot_of.ensures at c.scan_part.ensures) c.in-Stuck.is)))

pub returns-in-Unfit : goal.returns-in-Unfit
returns-in-Unfit c =
    rw c.refused-in-Unfit.ensures
    (subst (FeedsIn _ _ _ _ _) (sym c.moved-in-Unfit.ensures)
    (gets_refused _ c.requires (scan_unfit (rw c.spot_of.ensures at c.scan_part.ensures) c.in-Unfit.is)))

pub returns-in-Through : goal.returns-in-Through
returns-in-Through c =
    let new =
    c.put_part.ensures.buffer
    ∙ ap (sets c.args.buffer.now c.args.state.total)
    (all_of c.args.part.now c.whole.ensures.0 c.whole.ensures.1)
    in
    rw new (goes_on _ c.requires (scan_through (rw c.spot_of.ensures at c.scan_part.ensures) c.in-Through.is))
