-- Trying is exact.
use Rattle.extended.proofs.Exact.{decoded_exact}
use Rattle.extended.proofs.decoded_exact.Goals as goal

pub returns : goal.returns
returns c = decoded_exact
