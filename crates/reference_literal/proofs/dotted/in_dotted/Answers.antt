-- The dots and the number are those of the state. Assumes nothing.
use mathlib.Core.Path.{sym, ◌∙◌}
use Rattle.reference_sets.proofs.Moves.{dotted_step}
use Rattle.reference_literal.proofs.dotted.in_dotted.Goals as goal

pub returns : goal.returns
returns c =
    c.dotted_at.ensures ∙ sym (dotted_step c.args.q c.args.c c.requires.0 c.requires.1)
