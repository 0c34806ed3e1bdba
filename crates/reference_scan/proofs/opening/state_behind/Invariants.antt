-- As long as all octets are those of hosts and paths, the state is a host's or a path's. Assumes nothing.
use Prim.Native.Nat.{◌+◌, ◌-◌, ◌≤◌}
use mathlib.Core.Path.{◌≡◌}
use mathlib.Core.Bool.{true}
use lib.Seq.{slice}
use Rattle.octets.specs.Sets.{all}
use Rattle.reference_scan.specs.Common.{is_hosted}
use Rattle.reference_scan.specs.Comes.{Comes}
use Rattle.reference_scan.proofs.Hosting.{behind}
use Rattle.reference_scan.proofs.opening.state_behind.Given as goal

abbrev pub invariant-loop-k : goal.invariant-loop-k
invariant-loop-k l =
    (l.k ≤ 16)
    × (l.all ≡ true → Comes l.s l.at 6 (l.at + l.k) (behind l.host))
    × (l.all ≡ all is_hosted (slice l.at (l.at + l.k) l.s))

abbrev pub decreases-loop-k : goal.decreases-loop-k
decreases-loop-k l = 16 - l.k
