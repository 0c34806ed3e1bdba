-- One slot at each turn.
use Prim.Native.Nat.{◌-◌}
use native.Mathlib.Omega.{arith}
use native.Mathlib.Nat.{zero-add}
use mathlib.Core.Path.{ap, ◌∙◌}
use mathlib.Core.List.{map-id}
use lib.ListN.{take}
use lib.Seq.{sets}
use mir.Facts.{Fits-widen}
use Rattle.notes.proofs.Mapped.{none_put, all_put, slot, one_put}
use Rattle.notes.proofs.copy.Goals as goal

pub loop-k-init : goal.loop-k-init
loop-k-init c = none_put c.requires.0 (omega (arith, c.requires.1))

pub overflow_cast-slots : goal.overflow_cast-slots
overflow_cast-slots c = Fits-widen tt (c.shared_slice_known-1.given c.loop-k.k)

pub bounds-slots-k : goal.bounds-slots-k
bounds-slots-k c = omega (arith, slot c.loop-k.invariant c.loop-k-test.true)

pub loop-k-preserved : goal.loop-k-preserved
loop-k-preserved c =
    rw (zero-add c.loop-k.k) at (one_put c.loop-k.invariant c.loop-k-test.true)

pub shape_of-slots : goal.shape_of-slots
shape_of-slots c = c.loop-k.invariant.put.lengths

pub returns : goal.returns
returns c =
    let a = c.args in
    all_put c.loop-k.invariant c.loop-k-test.false
    ∙ ap (sets a.slots.now 0) (map-id (take a.count a.notes.now))
