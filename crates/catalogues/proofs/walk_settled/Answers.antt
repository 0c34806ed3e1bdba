-- The law holds.
use Rattle.catalogues.proofs.WalkSettled.{walk_settled}
use Rattle.catalogues.proofs.walk_settled.Goals as goal

pub returns : goal.returns
returns c = walk_settled
