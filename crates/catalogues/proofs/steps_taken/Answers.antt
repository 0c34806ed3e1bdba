-- The law holds.
use Rattle.catalogues.proofs.StepsTaken.{steps_taken}
use Rattle.catalogues.proofs.steps_taken.Goals as goal

pub returns : goal.returns
returns c = steps_taken
