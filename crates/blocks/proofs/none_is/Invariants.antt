-- Whether all octets so far are none. Assumes nothing.
use Prim.Native.Nat.{◌+◌}
use mathlib.Core.Path.{◌≡◌}
use lib.Seq.{slice}
use Rattle.octets.specs.Sets.{all}
use Rattle.blocks.specs.Others.{other_than}
use Rattle.blocks.proofs.none_is.Given as goal

abbrev pub invariant-loop-k : goal.invariant-loop-k
invariant-loop-k g l = l.none ≡ all (other_than g.row.C) (slice l.at (l.at + l.k) l.s)
