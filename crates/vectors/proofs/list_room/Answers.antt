-- As many slots are lent as the tables have, or fewer.
use native.Mathlib.Omega.{arith}
use lib.ListN.{length-take}
use Rattle.vectors.proofs.list_room.Goals as goal

pub slice_bounds-list-end-3 : goal.slice_bounds-list-end-3
slice_bounds-list-end-3 c = simp length-take (omega arith)
