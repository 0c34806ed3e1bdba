-- The whole text is judged as a part of itself. Assumes nothing.
use mathlib.Core.Path.{ap, ◌∙◌}
use Rattle.kinds.proofs.UpTo.{all_of}
use Rattle.reference_steps.specs.Machine.{run, accepts}
use Rattle.judging.proofs.is_uri.Goals as goal

pub returns : goal.returns
returns c =
    c.accepts.ensures
    ∙ ap accepts (c.run_over.ensures ∙ ap (run 55) (all_of c.args.s.now c.up_to.ensures))
