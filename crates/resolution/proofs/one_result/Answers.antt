-- The law holds.
use Rattle.resolution.proofs.OneResult.{one_result}
use Rattle.resolution.proofs.one_result.Goals as goal

pub returns : goal.returns
returns c = one_result
