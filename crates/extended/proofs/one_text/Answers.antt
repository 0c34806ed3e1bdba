-- A value gives one text.
use Rattle.extended.proofs.Exact.{one_text}
use Rattle.extended.proofs.one_text.Goals as goal

pub returns : goal.returns
returns c = one_text
