-- What is left of the part is put octet by octet.
use native.Mathlib.Omega.{arith}
use mathlib.Core.Bool.{not}
use lib.Dec.{eqb}
use lib.Seq.{slice}
use Rattle.kinds.proofs.Putting.{begin, onto, finish, octet, octet_room}
use Rattle.putting.proofs.Parts.{spelt_length, part_next, part_end}
use Rattle.putting.proofs.part.put_spelt.Goals as goal

pub loop-i-init : goal.loop-i-init
loop-i-init g c =
    let part = slice c.args.part.from.0 c.args.part.to.0 c.args.s.now in
    begin _ _ _ (omega (arith, c.requires.s_in_bounds, spelt_length (not (eqb g.row.FOLDING 0)) part))

pub bounds-out-j : goal.bounds-out-j
bounds-out-j g c =
    octet_room (onto (part_next (not (eqb g.row.FOLDING 0)) c.args.s.now c.args.part.to.0 c.loop-i-test.true c.requires.in_text.inside c.spelt.ensures) c.loop-i.invariant)

pub loop-i-preserved : goal.loop-i-preserved
loop-i-preserved g c =
    rw c.next-to.ensures
    (octet (onto (part_next (not (eqb g.row.FOLDING 0)) c.args.s.now c.args.part.to.0 c.loop-i-test.true c.requires.in_text.inside c.spelt.ensures) c.loop-i.invariant))

pub returns : goal.returns
returns g c =
    finish (onto (part_end (not (eqb g.row.FOLDING 0)) c.args.s.now c.args.part.to.0 (omega arith) c.loop-i-test.false) c.loop-i.invariant)
