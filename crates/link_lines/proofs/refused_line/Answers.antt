-- The numbers are those of such an answer.
use Rattle.link_lines.proofs.refused_line.Goals as goal

pub returns : goal.returns
returns c = rw c.into.ensures at c.refusal_line.ensures
