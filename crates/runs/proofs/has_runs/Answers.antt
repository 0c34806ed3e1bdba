-- There is a run exactly if the next one begins before the end.
use Rattle.runs.proofs.Skipping.{some_runs}
use Rattle.runs.proofs.has_runs.Goals as goal

pub returns : goal.returns
returns c = some_runs c.next_run.ensures
