-- The law holds.
use Rattle.catalogues.proofs.OneCatalogue.{one_catalogue}
use Rattle.catalogues.proofs.one_catalogue.Goals as goal

pub returns : goal.returns
returns c = one_catalogue
