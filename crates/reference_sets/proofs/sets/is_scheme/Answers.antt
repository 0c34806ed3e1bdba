-- The tests are those of the definition, in its order. Assumes nothing.
use Rattle.reference_sets.proofs.sets.is_scheme.Goals as goal

pub returns : goal.returns
returns c = cc
