-- A number that is none of some that follow each other lies behind them. Assumes nothing.
use Prim.Native.Nat.{ℕ, ◌+◌, ◌≤◌, ◌<◌}
use native.Mathlib.Omega.{arith}
use mathlib.Core.Path.{◌≡◌}

module _ (k q : ℕ) where
  pub past_three : k ≤ q → (q ≡ k → ⊥) → (q ≡ k + 1 → ⊥) → (q ≡ k + 2 → ⊥) → k + 3 ≤ q
  past_three h a b c = omega arith

  pub before_two : q ≤ k + 2 → k ≤ q → (q ≡ k + 1 → ⊥) → (q ≡ k + 2 → ⊥) → q ≡ k
  before_two h l a b = omega arith

pub at_bound : (q : ℕ) → 15 ≤ q → q < 16 → q ≡ 15
at_bound q h l = omega arith
