-- What a step is in each stretch of the states from 16 on. Assumes nothing.
use Prim.Native.Nat.{ℕ, ◌+◌, ◌-◌, ◌/◌, ◌%◌, ◌≤◌, ◌<◌}
use native.Mathlib.Nat.{eq-or-lt_of_le}
use native.Mathlib.Omega.{arith}
use mathlib.Core.Path.{◌≡◌, ◌∙◌}
use mathlib.Core.Logic.{⊎_elim}
use mathlib.Core.Bool.{cond}
use lib.Dec.{ltb}
use lib.ListN.{get_or, get_or-eq_default}
use borrow.Author.Tests.{lt-ltb, le-ltb}
use Rattle.references.specs.Octets.{has, HEXDIG}
use Rattle.reference_steps.specs.Machine.{step, inner, in_dotted, in_group}
use Rattle.reference_sets.specs.Sets.{of}

module _ (q c : ℕ) where
  pub triple_step : 16 ≤ q → q < 48 → step q c ≡ cond (has HEXDIG c) (cond (ltb q 32) (q + 16) (q - 32)) 54
  unfolding step
  triple_step a b = rw (le-ltb q 16 a, lt-ltb q 48 b)

  pub literal_step : 48 ≤ q → q < 60 → step q c ≡ get_or (inner (of c)) (q - 48) 54
  unfolding step
  literal_step a b = rw (le-ltb q 16 (omega arith), le-ltb q 48 a, lt-ltb q 60 b)

  -- three numbers are no state's, and 54 leads nowhere
  pub quiet : 54 ≤ q → (q ≡ 55 → ⊥) → (q ≡ 56 → ⊥) → q < 60 → step q c ≡ 54
  unfolding step
  quiet a n m b = ⊎_elim here (λ l. behind (omega arith)) (eq-or-lt_of_le a)
    where
      here : 54 ≡ q → step q c ≡ 54
      here e = rw (← e)

      behind : 56 < q → step q c ≡ 54
      behind l = literal_step (omega arith) b ∙ get_or-eq_default (inner (of c)) 54 {n = q - 48} (omega arith)

  pub dotted_step : 60 ≤ q → q < 100 → step q c ≡ in_dotted (of c) ((q - 60) / 6) ((q - 60) % 6)
  unfolding step
  dotted_step a b = rw (le-ltb q 16 (omega arith), le-ltb q 48 (omega arith), le-ltb q 60 a, lt-ltb q 100 b)

  pub group_step : 100 ≤ q → q < 580 →
      step q c ≡ in_group (of c) ((q - 100) / 240) ((q - 100) / 30 % 8) ((q - 100) / 6 % 5) ((q - 100) % 6)
  unfolding step
  group_step a b =
      rw (le-ltb q 16 (omega arith), le-ltb q 48 (omega arith), le-ltb q 60 (omega arith), le-ltb q 100 a, lt-ltb q 580 b)

  pub no_step : 580 ≤ q → step q c ≡ 54
  unfolding step
  no_step a =
      rw (le-ltb q 16 (omega arith), le-ltb q 48 (omega arith), le-ltb q 60 (omega arith), le-ltb q 100 (omega arith), le-ltb q 580 a)
