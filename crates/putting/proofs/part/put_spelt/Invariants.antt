-- What is left of the part is put octet by octet.
use mathlib.Core.Bool.{not}
use lib.Dec.{eqb}
use Rattle.kinds.proofs.Putting.{Putting}
use Rattle.putting.proofs.Parts.{spelt_part}
use Rattle.putting.proofs.part.put_spelt.Given as goal

abbrev pub invariant-loop-i : goal.invariant-loop-i
invariant-loop-i g l =
    let left = spelt_part (not (eqb g.row.FOLDING 0)) l.s l.fn.part.to.0 in
    Putting l.initial.out l.initial.to.0 (left l.fn.part.from.0) l.out l.to.0 (left l.i)
