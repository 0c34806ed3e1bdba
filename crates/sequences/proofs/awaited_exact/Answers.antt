-- The law holds.
use Rattle.sequences.proofs.Exact.{awaited_exact}
use Rattle.sequences.proofs.awaited_exact.Goals as goal

pub returns : goal.returns
returns c = awaited_exact
