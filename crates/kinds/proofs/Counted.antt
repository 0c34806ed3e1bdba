-- The link that is i further on than the first has the number i; and the parameters from number `first` up to `end`, counted.
use Prim.Native.Nat.{ℕ, ◌+◌, ◌-◌, ◌≤◌, ◌<◌}
use native.Mathlib.Omega.{arith}
use mathlib.Core.Path.{◌≡◌}

pub from_first : {first link i : ℕ} → first ≡ 0 → link ≡ first + i → link ≡ i
from_first z e = omega (arith, z, e)

module _ (first end : ℕ) {count k : ℕ} (e : count ≡ end - first) where
  pub before_end : k < count → first + k < end
  before_end l = omega (arith, e, l)

  pub behind_end : count ≤ k → end ≤ first + k
  behind_end l = omega (arith, e, l)

pub one_more : (first k : ℕ) → first + (k + 1) ≡ first + k + 1
one_more first k = omega arith
