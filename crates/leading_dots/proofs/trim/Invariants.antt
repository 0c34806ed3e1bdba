-- What is left has the same beginning once its dot segments go.
use Prim.Native.Nat.{◌-◌, ◌≤◌}
use mathlib.Core.Path.{◌≡◌}
use Rattle.resolution.specs.Walking.{trimmed}
use Rattle.bare.specs.Bare.{bare_of}
use Rattle.leading_dots.proofs.trim.Given as goal

abbrev pub invariant-loop-k : goal.invariant-loop-k
invariant-loop-k l = (l.initial.k.0 ≤ l.k.0) × (l.k.0 ≤ l.to.0) × (trimmed (bare_of l.s l.initial.k.0 l.to.0) ≡ trimmed (bare_of l.s l.k.0 l.to.0))

abbrev pub decreases-loop-k : goal.decreases-loop-k
decreases-loop-k l = l.to.0 - l.k.0
