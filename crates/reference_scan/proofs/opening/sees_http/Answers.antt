-- Four letters of a scheme. Assumes nothing.
use Rattle.reference_scan.proofs.Openings.{http}
use Rattle.reference_scan.proofs.opening.sees_http.Goals as goal

pub returns : goal.returns
returns c =
    http c.args.s.now c.args.i c.requires
