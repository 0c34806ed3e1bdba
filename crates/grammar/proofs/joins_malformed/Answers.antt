-- The law holds.
use Rattle.grammar.proofs.Joined.{joins_malformed}
use Rattle.grammar.proofs.joins_malformed.Goals as goal

pub returns : goal.returns
returns c = joins_malformed
