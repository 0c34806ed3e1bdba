-- The digits that the library `io` spells of a number of 64 bits: its decimal ones, 20 at most. Assumes nothing.
use Prim.Native.Nat.{ℕ, ◌^◌, ◌<◌, ◌≤◌}
use native.Mathlib.Omega.{arith}
use mathlib.Core.Path.{◌≡◌, ap, ◌∙◌}
use mathlib.Core.List.{List}
use lib.ListN.{length}
use Rattle.io.specs.Digits.{last_digits, IsDigitCount}
use Rattle.columns.specs.Decimal.{decimal}
use Rattle.columns.proofs.Fewest.{fewest_decimal, fewest_short}

module _ {n r : ℕ} {d : List ℕ} (fewest : IsDigitCount 10 1 n r) (spelt : d ≡ last_digits 10 r n) where
  pub digits_are : d ≡ decimal n
  digits_are = spelt ∙ fewest_decimal fewest

  pub digits_short : n < 2 ^ 64 → r ≡ length d → length (decimal n) ≤ 20
  digits_short small counts = omega (arith, counts, ap length digits_are, fewest_short small fewest)
