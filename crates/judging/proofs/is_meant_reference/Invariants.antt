-- What is left of the meaning leads on from the state at each turn to where all of it leads. Assumes nothing.
-- behind a backslash and its octet
use Prim.Native.Nat.{◌-◌, ◌≤◌}
use mathlib.Core.Path.{◌≡◌}
use Rattle.reference_steps.specs.Machine.{run}
use Rattle.values.specs.Rest.{rest}
use Rattle.judging.proofs.is_meant_reference.Given as goal

abbrev pub invariant-loop-j : goal.invariant-loop-j
invariant-loop-j l = (l.i ≤ l.to) × (l.q ≡ 54 → ⊥) × (run 0 (rest l.s l.to l.initial.i) ≡ run l.q (rest l.s l.to l.i))

abbrev pub decreases-loop-j : goal.decreases-loop-j
decreases-loop-j l = l.to - l.i
