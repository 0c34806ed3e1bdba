-- No octet before the least place found is outside of the set. Assumes nothing.
use Prim.Native.Nat.{ℕ, ◌+◌, ◌-◌, ◌≤◌, ◌<◌}
use mathlib.Core.Path.{◌≡◌}
use mathlib.Core.Bool.{true}
use lib.ListN.{get_or}
use Rattle.reference_sets.specs.Sets.{is_path}
use Rattle.reference_scan.proofs.blocks.count_common.Given as goal

abbrev pub invariant-loop-n : goal.invariant-loop-n
invariant-loop-n l =
    (l.n ≤ 16) × (l.first ≤ 16) × ((j : ℕ) → j < l.n → j < l.first → is_path (get_or l.s (l.at + j) 0) ≡ true)

abbrev pub decreases-loop-n : goal.decreases-loop-n
decreases-loop-n l = 16 - l.n
