-- The law holds.
use Rattle.catalogues.proofs.Decided.{catalogue_decided}
use Rattle.catalogues.proofs.catalogue_decided.Goals as goal

pub returns : goal.returns
returns c = catalogue_decided
