-- The law holds.
use Rattle.outcomes.proofs.DecodeSettled.{decode_settled}
use Rattle.outcomes.proofs.decode_settled.Goals as goal

pub returns : goal.returns
returns c = decode_settled
