-- The judging goes along, and tells at the target's end.
use mathlib.Core.Path.{sym, ap, ◌∙◌}
use Prim.Native.Nat.{ℕ}
use Rattle.phases.specs.Spots.{spot}
use Rattle.phases.proofs.SpotCases.{goes_on, is_reference_lem, no_reference}
use Rattle.phases.proofs.spot.behind_target.Goals as goal

pub returns-then-phase-ne-AFTER : goal.returns-then-phase-ne-AFTER
returns-then-phase-ne-AFTER c =
    let a = c.args in
    ap (λ (q : ℕ). spot a.phase a.spot.target.0 q) c.next.ensures ∙ goes_on a.spot _ _ c.if-phase-ne-AFTER.true

pub returns-then-accepts : goal.returns-then-accepts
returns-then-accepts c = c.flat.ensures ∙ is_reference_lem c.args.spot _ _ c.if-phase-ne-AFTER.false (sym c.accepts.ensures ∙ c.if-accepts.true)

pub returns : goal.returns
returns c = no_reference c.args.spot _ _ c.if-phase-ne-AFTER.false (sym c.accepts.ensures ∙ c.if-accepts.false)
