-- The tests are those of the definition, in its order. Assumes nothing.
use Rattle.reference_literal.proofs.groups.group_ends.Goals as goal

pub returns : goal.returns
returns c = cc
