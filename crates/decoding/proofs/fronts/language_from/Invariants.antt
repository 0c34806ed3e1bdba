-- What stands behind the language is the same from each of its octets on.
use Prim.Native.Nat.{◌-◌}
use mathlib.Core.Path.{◌≡◌}
use Rattle.extended.specs.Decoded.{behind_language}
use Rattle.units.specs.Seen.{seen}
use Rattle.decoding.proofs.fronts.language_from.Given as goal

abbrev pub invariant-loop-c : goal.invariant-loop-c
invariant-loop-c l = behind_language (seen l.how l.s l.e.0 l.at.0) ≡ behind_language (seen l.how l.s l.e.0 l.initial.at.0)

abbrev pub decreases-loop-c : goal.decreases-loop-c
decreases-loop-c l = l.e.0 - l.at.0
