-- The span is asked first, and then whether it is a reference.
use Rattle.part_check.proofs.Deciding.{not_so}
use Rattle.table_check.proofs.Judged.{judged}
use Rattle.table_check.proofs.links.is_good_target.Goals as goal

pub is_reference-requires : goal.is_reference-requires
is_reference-requires c = let h = c.is_span.ensures.holds c.if-is_span.true in (h.ordered, h.inside)

pub returns-then-is_span : goal.returns-then-is_span
returns-then-is_span c = judged _ (c.is_span.ensures.holds c.if-is_span.true) c.is_reference.ensures

pub returns-else-is_span : goal.returns-else-is_span
returns-else-is_span c = rw c.if-is_span.false (not_so (λ g. c.is_span.ensures.fails c.if-is_span.false g.span))
