-- A number as decimal digits, and what shows that they are the right ones.
use Rattle.std.specs.Prelude.{ℕ, zero, suc, ◌+◌, ◌-◌, ◌*◌, ◌/◌, ◌%◌, ◌<◌, true, cond, List, [], ◌∷◌, ◌++◌, ◌≡◌, ltb, get_or}
use Rattle.octets.specs.Text.{octets}
use Rattle.octets.specs.Sets.{all, is_digit}

-- the last digit of n, behind those of n / 10 unless n is below 10; k digits at most
unfoldable pub digits_up_to : ℕ → ℕ → List ℕ
digits_up_to zero n = []
digits_up_to (suc k) n = cond (ltb n 10) [] (digits_up_to k (n / 10)) ++ ((48 + n % 10) ∷ [])

-- the digits of n, most significant first: no more than n + 1
abbrev pub decimal : ℕ → List ℕ
decimal n = digits_up_to (suc n) n

-- the number that digits stand for, where those before them stand for n
unfoldable pub read_from : ℕ → List ℕ → ℕ
read_from n [] = n
read_from n (c ∷ s) = read_from (10 * n + (c - 48)) s

-- the digits read back as their number, with no zero in front
pub record DecimalHolds : Type 0 where
  pub digits : (n : ℕ) → all is_digit (decimal n) ≡ true
  pub number : (n : ℕ) → read_from 0 (decimal n) ≡ n
  pub of_zero : decimal 0 ≡ octets "0"
  pub no_leading_zero : (n : ℕ) → 0 < n → 48 < get_or (decimal n) 0 0
