-- A part as it stands.
use Rattle.putting.proofs.Parts.{as_it_stands}
use Rattle.putting.proofs.part.put_part.Goals as goal

pub returns : goal.returns
returns c = rw as_it_stands at c.put_spelt.ensures
