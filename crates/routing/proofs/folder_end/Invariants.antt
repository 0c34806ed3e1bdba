-- No slash stands right of the place.
use Prim.Native.Nat.{◌≤◌}
use mathlib.Core.Path.{◌≡◌}
use Rattle.resolution.specs.Resolve.{folder}
use Rattle.bare.specs.Bare.{bare_of}
use Rattle.routing.proofs.folder_end.Given as goal

abbrev pub invariant-loop-i : goal.invariant-loop-i
invariant-loop-i l =
    (l.i-start ≤ l.i) × (folder (bare_of l.s l.i-start l.initial.i) ≡ folder (bare_of l.s l.i-start l.i))
