-- The count and what is left make the whole length at each turn.
use Prim.Native.Nat.{◌+◌, ◌≤◌}
use mathlib.Core.Path.{◌≡◌}
use lib.ListN.{length}
use Rattle.bare.specs.Bare.{bare_of}
use Rattle.bare.proofs.bare_len.Given as goal

abbrev pub invariant-loop-at : goal.invariant-loop-at
invariant-loop-at l =
    (l.n ≤ l.at) × (l.n + length (bare_of l.s l.at l.fn.part.to.0) ≡ length (bare_of l.s l.fn.part.from.0 l.fn.part.to.0))
