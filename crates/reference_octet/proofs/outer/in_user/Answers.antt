-- The tests are those of the definition, in its order. Assumes nothing.
use Rattle.reference_steps.specs.Machine.{step}
use Rattle.reference_octet.proofs.outer.in_user.Goals as goal

pub returns : goal.returns
unfolding step
returns c = cc
