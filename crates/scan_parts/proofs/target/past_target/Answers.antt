-- What the judging took is a reference; else the octets and triples tell where the target ends.
use borrow.Author.Rules.{rules}
use mathlib.Core.Path.{refl, sym, ◌∙◌}
use mathlib.Core.Bool.{true≢false}
use borrow.Author.Tests.{eq-eqb}
use Rattle.scan_parts.proofs.ReferenceOrNot.{is_reference_lem, stuck_all_the_same, closed_all_the_same}
use Rattle.scan_parts.proofs.target.past_target.Goals as goal
use Rattle.scan_parts.proofs.target.past_target.Goals.{else-accepts-via-then-accepts+else-sees, else-accepts-via-else-accepts}

pub returns-then-sees : goal.returns-then-sees
returns-then-sees c =
    is_reference_lem c.judge-judged.ensures refl (sym c.accepts.ensures ∙ c.if-accepts.true)
    (c.sees.ensures.yes c.if-sees.true)

pub returns-in_err-past_units : goal.returns-in_err-past_units
returns-in_err-past_units c = search (rules, stuck_all_the_same)

pub returns : goal.returns
returns c =
    closed_all_the_same c.judge-judged.ensures c.in_ok-past_units.ensures
    (λ q y.
    elim c.else-accepts.branch [
      | else-accepts-via-then-accepts+else-sees w ↦
          true≢false (sym (eq-eqb _ 62 q.is) ∙ w.sees.ensures.not w.if-sees.false q.inside)
      | else-accepts-via-else-accepts w ↦ true≢false (sym y ∙ sym c.accepts.ensures ∙ w.if-accepts.false)
    ])
