-- The first octet and the last lie in the header.
use native.Mathlib.Omega.{arith}
use lib.ListN.{length-set}
use Rattle.vectors.proofs.list_long.Goals as goal

pub bounds-header-n : goal.bounds-header-n
bounds-header-n c = simp length-set (omega arith)
