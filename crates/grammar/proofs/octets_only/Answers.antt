-- The law holds.
use Rattle.grammar.proofs.OctetsOnly.{octets_only}
use Rattle.grammar.proofs.octets_only.Goals as goal

pub returns : goal.returns
returns c = octets_only
