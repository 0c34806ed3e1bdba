-- The loop has put the first number and the numbers before the index.
use Prim.Native.Nat.{◌+◌, ◌*◌, ◌≤◌}
use mathlib.Core.List.{◌∷◌, ◌++◌}
use mathlib.Core.Path.{◌≡◌}
use lib.ListN.{length, take}
use Rattle.columns.specs.Line.{columns}
use Rattle.columns.specs.LineHolds.{octets_of}
use Rattle.columns.proofs.line_of.Given as goal

abbrev pub invariant-loop-n : goal.invariant-loop-n
invariant-loop-n l =
    (l.l.len ≤ length l.label + 21 * (1 + l.n-index)) × (octets_of l.l ≡ l.label ++ columns (l.first ∷ take l.n-index l.rest))
