-- A length, or a bound of it, that is measured as far as the limit.
use Rattle.std.specs.Prelude.{ℕ, ◌≤◌, ◌<◌, ◌≡◌, Bool, true}
use Rattle.outcomes.specs.Number.{limit}

-- r is the length n, or both are over the limit
pub record Measured (n r : ℕ) : Type 0 where
  pub exact : r ≤ limit → n ≡ r
  pub over : limit < r → limit < n

-- r is the length n at least, and no more if it is exact
pub record Covers (exact : Bool) (n r : ℕ) : Type 0 where
  pub enough : n ≤ r
  pub same : exact ≡ true → n ≡ r

-- so it is as far as the limit, and an r that is exact is over the limit only where n is
pub record Bounds (exact : Bool) (n r : ℕ) : Type 0 where
  pub within : r ≤ limit → Covers exact n r
  pub over : exact ≡ true → limit < r → limit < n
