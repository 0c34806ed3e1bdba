-- Reading's answer tells it.
use Rattle.accepting.proofs.Accepting.{answer_tells}
use Rattle.accepting.proofs.is_accepted.Goals as goal

pub returns : goal.returns
returns c = rw c.is_ok.ensures.value (answer_tells _ c.read_in.ensures)
