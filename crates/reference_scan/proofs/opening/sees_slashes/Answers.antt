-- The end of a scheme, and two slashes. Assumes nothing.
use Rattle.reference_scan.proofs.Openings.{slashes}
use Rattle.reference_scan.proofs.opening.sees_slashes.Goals as goal

pub returns : goal.returns
returns c =
    slashes c.args.s.now c.args.i c.requires
