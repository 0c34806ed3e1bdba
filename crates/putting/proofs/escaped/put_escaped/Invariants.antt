-- What is left of the meaning is put octet by octet.
-- where the branch's ways meet, the octet meant stands at p
use Prim.Native.Nat.{◌-◌}
use Rattle.putting.proofs.PutUpTo.{PutUpTo}
use Rattle.putting.proofs.Escapes.{escaped_part}
use Rattle.putting.proofs.escaped.put_escaped.Given as goal

abbrev pub invariant-loop-k : goal.invariant-loop-k
invariant-loop-k l =
    PutUpTo (escaped_part l.s l.e.0) l.e.0 l.initial.out l.initial.to.0 (escaped_part l.s l.e.0 l.initial.k.0) l.out l.to.0 l.k.0

abbrev pub decreases-loop-k : goal.decreases-loop-k
decreases-loop-k l = l.e.0 - l.k.0
