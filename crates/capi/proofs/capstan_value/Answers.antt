-- The numbers are those of the entry's answer.
use Rattle.capi.proofs.capstan_value.Goals as goal

pub returns : goal.returns
returns c =
    rw c.into.ensures (rw c.counts_of-counts.ensures at c.value.ensures)
