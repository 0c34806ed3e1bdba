-- The law holds.
use Rattle.phases.proofs.Steps.{phase_step}
use Rattle.phases.proofs.follows_machine.Goals as goal

pub returns : goal.returns
returns c = phase_step
