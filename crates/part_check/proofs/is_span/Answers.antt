-- The two tests decide the two clauses of a span.
use Rattle.part_check.proofs.Deciding.{also, both, tests_le}
use Rattle.part_check.proofs.is_span.Goals as goal

pub returns : goal.returns
returns c =
    also (λ p. record { ordered = p.0; inside = p.1 }) (λ h. (h.ordered, h.inside)) (both (tests_le _ _) (tests_le _ _))
