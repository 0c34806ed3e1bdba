-- The law holds.
use Rattle.grammar.proofs.Codes.{codes}
use Rattle.grammar.proofs.known_names.Goals as goal

pub returns : goal.returns
returns c = codes
