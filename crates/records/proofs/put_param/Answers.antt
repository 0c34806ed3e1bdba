-- The stores are the record's numbers, one behind another.
use native.Mathlib.Omega.{arith}
use native.Mathlib.Numerals.{add-one, add-two, add-three, add-four, add_five}
use mathlib.Core.Path.{refl}
use lib.ListN.{length-set}
use Rattle.records.proofs.put_param.Goals as goal

pub bounds-slots-at-2 : goal.bounds-slots-at-2
bounds-slots-at-2 c = simp length-set (omega arith)

pub bounds-slots-at-3 : goal.bounds-slots-at-3
bounds-slots-at-3 c = simp length-set (omega arith)

pub bounds-slots-at-4 : goal.bounds-slots-at-4
bounds-slots-at-4 c = simp length-set (omega arith)

pub bounds-slots-at-5 : goal.bounds-slots-at-5
bounds-slots-at-5 c = simp length-set (omega arith)

pub bounds-slots-at-6 : goal.bounds-slots-at-6
bounds-slots-at-6 c = simp length-set (omega arith)

pub returns : goal.returns
returns c = rw (add-one, add-two, add-three, add-four, add_five) refl
