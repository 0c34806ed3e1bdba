-- The law holds.
use Rattle.grammar.proofs.Keeping.{keeps}
use Rattle.grammar.proofs.keeps.Goals as goal

pub returns : goal.returns
returns c = keeps
