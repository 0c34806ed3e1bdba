-- What is counted and what is still given tell the same at each turn.
use Prim.Native.Nat.{◌-◌, ◌≤◌}
use mathlib.Core.Path.{◌≡◌}
use Rattle.extended.specs.Decoded.{given}
use Rattle.units.specs.Seen.{seen}
use Rattle.decoding.specs.Measured.{measured}
use Rattle.decoding.proofs.octets_given.measure.Given as goal

abbrev pub invariant-loop-k : goal.invariant-loop-k
invariant-loop-k l =
    (l.n ≤ l.k.0)
    × (measured l.n l.awaited (given (seen l.how l.s l.e.0 l.k.0)) ≡ measured l.initial.n l.initial.awaited (given (seen l.how l.s l.e.0 l.initial.k.0)))

abbrev pub decreases-loop-k : goal.decreases-loop-k
decreases-loop-k l = l.e.0 - l.k.0
