-- The count and what is left make the whole length at each turn.
-- where the branch's ways meet, the octet meant stands at k
use Prim.Native.Nat.{◌+◌, ◌-◌, ◌≤◌}
use mathlib.Core.Path.{◌≡◌}
use lib.ListN.{length}
use Rattle.values.specs.Rest.{rest}
use Rattle.values.proofs.meaning_len.Given as goal

abbrev pub invariant-loop-k : goal.invariant-loop-k
invariant-loop-k l =
    (l.k.0 ≤ l.e.0) × (l.n ≤ l.k.0) × (l.n + length (rest l.s l.e.0 l.k.0) ≡ length (rest l.s l.e.0 l.initial.k.0))

abbrev pub decreases-loop-k : goal.decreases-loop-k
decreases-loop-k l = l.e.0 - l.k.0
