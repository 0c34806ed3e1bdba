-- Only the judging moves.
use Prim.Native.Nat.{ℕ}
use mathlib.Core.Path.{ap, ap₂, ◌∙◌}
use lib.Seq.{slice}
use Rattle.reference_steps.specs.Machine.{run}
use Rattle.phases.specs.Spots.{spot}
use Rattle.part_scan.proofs.go_on.judged_to.Goals as goal

pub returns : goal.returns
returns c =
    let a = c.args in
    ap (λ (q : ℕ). spot a.spot.phase a.spot.target.0 q)
    (c.run_over-judged.ensures
    ∙ ap₂ (λ (x y : ℕ). run a.spot.judged (slice x y a.s.now)) c.span_to.ensures.0 c.span_to.ensures.1)
