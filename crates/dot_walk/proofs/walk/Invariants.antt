-- The state is the one left of what was passed.
use Prim.Native.Nat.{◌≤◌}
use mathlib.Core.Path.{◌≡◌}
use Rattle.resolution.specs.Walking.{run}
use Rattle.bare.specs.Bare.{bare_of}
use Rattle.dot_walk.proofs.walk.Given as goal

abbrev pub invariant-loop-i : goal.invariant-loop-i
invariant-loop-i l = (l.i-start ≤ l.i) × (l.t ≡ run (bare_of l.s l.i l.initial.i) l.initial.t)
