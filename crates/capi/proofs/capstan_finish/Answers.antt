-- The numbers are those of the entry's answer.
use Rattle.capi.proofs.capstan_finish.Goals as goal

pub returns : goal.returns
returns c = rw c.into.ensures c.finish.ensures
