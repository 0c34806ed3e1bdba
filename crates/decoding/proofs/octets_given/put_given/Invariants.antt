-- What is put already and what is still given make the whole at each turn.
use Prim.Native.Nat.{◌-◌}
use Rattle.kinds.proofs.Putting.{Putting}
use Rattle.extended.specs.Decoded.{given}
use Rattle.units.specs.Seen.{seen}
use Rattle.decoding.specs.Measured.{octets_given, IsGiven}
use Rattle.decoding.proofs.octets_given.put_given.Given as goal

abbrev pub invariant-loop-k : goal.invariant-loop-k
invariant-loop-k l =
    IsGiven (given (seen l.how l.s l.e.0 l.k.0))
    × Putting l.initial.out l.initial.to.0 (octets_given (given (seen l.how l.s l.e.0 l.initial.k.0))) l.out l.to.0 (octets_given (given (seen l.how l.s l.e.0 l.k.0)))

abbrev pub decreases-loop-k : goal.decreases-loop-k
decreases-loop-k l = l.e.0 - l.k.0
