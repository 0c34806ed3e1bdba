-- The steps left fall with each call.
use Rattle.pack_walk.proofs.+walk_on.Given as goal

abbrev pub decreases-walk_on : goal.decreases-walk_on
decreases-walk_on l = l.left
