-- As many octets are lent as the buffer has, or fewer.
use native.Mathlib.Omega.{arith}
use lib.ListN.{length-take}
use Rattle.vectors.proofs.list_length.Goals as goal

pub slice_bounds-list_long-end : goal.slice_bounds-list_long-end
slice_bounds-list_long-end c = simp length-take (omega arith)

pub list_long-requires : goal.list_long-requires
list_long-requires c = simp length-take (omega arith)
