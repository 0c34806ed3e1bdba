-- A part is a reference if its last state accepts. Assumes nothing.
use mathlib.Core.Path.{ap, ◌∙◌}
use Rattle.reference_steps.specs.Machine.{accepts}
use Rattle.reference_scan.proofs.is_reference.Goals as goal

pub returns : goal.returns
returns c = c.accepts.ensures ∙ ap accepts c.run_over.ensures
