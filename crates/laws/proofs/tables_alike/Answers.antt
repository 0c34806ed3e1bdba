-- The law holds.
use Rattle.laws.proofs.Answers.{tables_alike}
use Rattle.laws.proofs.tables_alike.Goals as goal

pub returns : goal.returns
returns c = tables_alike
