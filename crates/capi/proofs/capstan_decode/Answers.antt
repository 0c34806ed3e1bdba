-- The numbers are those of the entry's answer.
use Rattle.capi.proofs.capstan_decode.Goals as goal

pub returns : goal.returns
returns c = rw c.into.ensures c.decode.ensures
