-- Whether all octets so far are such. Assumes nothing.
use Prim.Native.Nat.{◌+◌, ◌-◌, ◌≤◌}
use mathlib.Core.Path.{◌≡◌}
use lib.Seq.{slice}
use Rattle.octets.specs.Sets.{all}
use Rattle.reference_scan.specs.Common.{is_common}
use Rattle.reference_scan.proofs.blocks.all_common.Given as goal

abbrev pub invariant-loop-k : goal.invariant-loop-k
invariant-loop-k l = (l.k ≤ 16) × (l.all ≡ all is_common (slice l.at (l.at + l.k) l.s))

abbrev pub decreases-loop-k : goal.decreases-loop-k
decreases-loop-k l = 16 - l.k
