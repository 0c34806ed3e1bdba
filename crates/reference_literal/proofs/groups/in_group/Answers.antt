-- What stands in the address is read off the state. Assumes nothing.
use mathlib.Core.Path.{sym, ◌∙◌}
use Rattle.reference_sets.proofs.Moves.{group_step}
use Rattle.reference_literal.proofs.groups.in_group.Goals as goal

pub returns : goal.returns
returns c =
    c.group_at.ensures ∙ sym (group_step c.args.q c.args.c c.requires.0 c.requires.1)
