-- The ones that an octet begins with: in a sequence's first octet they tell how many octets it has (RFC 3629 section 3, law `OnesTell`).
use Rattle.std.specs.Prelude.{ℕ, zero, suc, ◌/◌, ◌%◌, ◌^◌, cond, eqb}

-- the ones that the k lowest bits of c begin with
abbrev pub ones_of : ℕ → ℕ → ℕ
ones_of zero c = 0
ones_of (suc k) c = cond (eqb (c / 2 ^ k % 2) 1) (suc (ones_of k c)) 0

unfoldable pub leading_ones : ℕ → ℕ
leading_ones c = ones_of 8 c

-- how many octets a sequence has whose first octet begins with n ones
abbrev pub length_by : ℕ → ℕ
length_by zero = 1
length_by (suc n) = suc n
