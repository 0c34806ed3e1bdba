-- The tests are those of the definition, in its order. Assumes nothing.
use Rattle.reference_octet.proofs.outer.port_on.Goals as goal

pub returns : goal.returns
returns c = cc
