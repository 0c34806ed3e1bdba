-- As many octets as are answered stand in the buffer.
use native.Mathlib.Omega.{arith}
use lib.ListN.{length-take}
use Rattle.vectors.proofs.Copied.{count_fits}
use Rattle.vectors.proofs.ask.value.Goals as goal

pub slice_bounds-put_octets-end : goal.slice_bounds-put_octets-end
slice_bounds-put_octets-end c = rw c.into-told.ensures (count_fits c.value.ensures)

pub slice_bounds-put_octets-end-2 : goal.slice_bounds-put_octets-end-2
slice_bounds-put_octets-end-2 c =
    let fits = count_fits c.value.ensures in
    simp length-take (omega (arith, rw (← c.into-told.ensures) at fits))
