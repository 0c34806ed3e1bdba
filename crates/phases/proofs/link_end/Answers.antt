-- It is a choice of two octets and blanks.
use Rattle.phases.specs.Steps.{link_end_in}
use Rattle.phases.proofs.link_end.Goals as goal

pub returns : goal.returns
unfolding link_end_in
returns c = c.first_of.ensures
