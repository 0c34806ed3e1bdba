-- The numbers are those of the entry's answer.
use Rattle.capi.proofs.capstan_resolve.Goals as goal

pub returns : goal.returns
returns c = rw c.into.ensures c.resolve.ensures
