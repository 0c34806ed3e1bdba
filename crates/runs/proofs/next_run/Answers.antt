-- Behind the SPs the next run begins.
use Rattle.runs.proofs.Skipping.{next_begins}
use Rattle.runs.proofs.next_run.Goals as goal

pub returns : goal.returns
returns c = next_begins c.skip.ensures
