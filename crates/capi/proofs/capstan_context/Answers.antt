-- The numbers are those of the entry's answer.
use Rattle.capi.proofs.WithinSource.{is_told}
use Rattle.capi.proofs.capstan_context.Goals as goal

pub returns : goal.returns
returns c = is_told (rw c.counts_of-counts.ensures at c.context_number-answer.ensures) c.of.ensures
