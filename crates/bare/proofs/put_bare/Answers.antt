-- What is put already and what is left to put make the whole at each turn.
-- an octet other than a backslash is the next to be put
use mathlib.Core.Path.{refl}
use Rattle.kinds.proofs.Putting.{begin, onto, finish, octet, octet_room}
use Rattle.bare.proofs.Bare.{bare_of_none}
use Rattle.bare.proofs.Passing.{over_backslash, over_octet}
use Rattle.bare.proofs.put_bare.Goals as goal

pub loop-here-init : goal.loop-here-init
loop-here-init c = begin _ _ _ c.requires.1

pub loop-here-preserved-then-s-here-eq92 : goal.loop-here-preserved-then-s-here-eq92
loop-here-preserved-then-s-here-eq92 c =
    onto (over_backslash c.args.s.now refl c.loop-here-test.true c.requires.0.inside c.if-s-here-eq92.true) c.loop-here.invariant

pub bounds-out-j : goal.bounds-out-j
bounds-out-j c =
    octet_room (onto (over_octet c.args.s.now refl c.loop-here-test.true c.requires.0.inside c.if-s-here-eq92.false) c.loop-here.invariant)

pub loop-here-preserved : goal.loop-here-preserved
loop-here-preserved c = rw c.next-to.ensures (octet (onto (over_octet c.args.s.now refl c.loop-here-test.true c.requires.0.inside c.if-s-here-eq92.false) c.loop-here.invariant))

pub returns : goal.returns
returns c =
    finish (onto (bare_of_none c.args.s.now _ _ c.loop-here-test.false) c.loop-here.invariant)
