-- The stores are the pack's numbers, one behind another.
use native.Mathlib.Omega.{arith}
use native.Mathlib.Numerals.{add-one, add-two}
use mathlib.Core.Path.{refl}
use lib.ListN.{length-set}
use Rattle.pack_index.proofs.put_places.Goals as goal

pub bounds-index-at-2 : goal.bounds-index-at-2
bounds-index-at-2 c = simp length-set (omega arith)

pub bounds-index-at-3 : goal.bounds-index-at-3
bounds-index-at-3 c = simp length-set (omega arith)

pub returns : goal.returns
returns c = rw (add-one, add-two) refl
