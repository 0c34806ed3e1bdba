-- The law holds.
use Rattle.catalogues.proofs.WalkingOn.{onwards}
use Rattle.catalogues.proofs.onwards.Goals as goal

pub returns : goal.returns
returns c = onwards
