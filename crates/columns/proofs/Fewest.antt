-- The fewest digits that hold a number, as the library `io` spells them, are its decimal digits. Assumes nothing.
use Prim.Native.Nat.{ℕ, zero, suc, ◌+◌, ◌-◌, ◌/◌, ◌%◌, ◌^◌, ◌<◌, ◌≤◌}
use native.Mathlib.Nat.{mod-lt, one-le-pow, pow-suc, div-lt_iff_lt-mul, le-div_iff_mul-le, pow-le-pow_right}
use native.Mathlib.Numerals.{unary_clauses}
use native.Mathlib.Omega.{arith}
use mathlib.Core.Bool.{Bool, true, false, cond}
use mathlib.Core.List.{List, [], ◌∷◌, ◌++◌}
use mathlib.Core.Path.{◌≡◌, refl}
use borrow.Author.Tests.{ltb-true, ltb-false, lt-ltb, leb-true, leb-false}
use lib.Dec.{ltb, leb}
use Rattle.io.specs.Digits.{hex_digit_ascii, last_digits, IsDigitCount}
use Rattle.columns.specs.Decimal.{digits_up_to, decimal}
use Rattle.columns.proofs.Decimal.{tenth}

glyph_is : (n : ℕ) → hex_digit_ascii (n % 10) ≡ 48 + n % 10
glyph_is n = rw (lt-ltb (n % 10) 10 (mod-lt n (omega arith)))

less_one : (r n : ℕ) → 10 ^ (suc r - 1) ≤ n → 10 ^ r ≤ n
less_one r n h = simp unary_clauses at h

-- a number below 10 has one digit
one_digit : (r n : ℕ) → n < 10 → IsDigitCount 10 1 n (suc r) → last_digits 10 r (n / 10) ≡ []
one_digit zero n h f = refl
one_digit (suc r) n h f =
    let large = less_one (suc r) n (f.2 (omega arith)) in
    absurd (omega (arith, pow-suc 10 r, one-le-pow r 10 (omega arith)))

-- the digits before the last are the fewest that hold n / 10
fewer : (r n : ℕ) → 10 ≤ n → IsDigitCount 10 1 n (suc r) → IsDigitCount 10 1 (n / 10) r
fewer zero n h f = absurd (omega (arith, f.1))
fewer (suc r) n h f = (
  omega arith,
  (div-lt_iff_lt-mul {k = 10} {x = n} {y = 10 ^ suc r} (omega arith)).1 (rw (pow-suc 10 (suc r)) at f.1),
  λ more. (le-div_iff_mul-le {k = 10} {x = 10 ^ (suc r - 1)} {y = n} (omega arith)).1
      (simp unary_clauses (rw (pow-suc 10 r) at (less_one (suc r) n (f.2 (omega arith))))),
)

step : (b : Bool) (r n : ℕ) (s : List ℕ) → ltb n 10 ≡ b → IsDigitCount 10 1 n (suc r) → (b ≡ false → last_digits 10 r (n / 10) ≡ s)
    → last_digits 10 (suc r) n ≡ cond b [] s ++ ((48 + n % 10) ∷ [])
step true r n s e f h = rw (glyph_is n, one_digit r n (ltb-true n 10 e) f)
step false r n s e f h = rw (glyph_is n, h refl)

all_steps : (k r n : ℕ) → n < k → IsDigitCount 10 1 n r → last_digits 10 r n ≡ digits_up_to k n
unfolding digits_up_to
all_steps zero r n h f = absurd (omega arith)
all_steps (suc k) zero n h f = absurd (omega (arith, f.0))
all_steps (suc k) (suc r) n h f =
    step (ltb n 10) r n (digits_up_to k (n / 10)) refl f
    (λ e. all_steps k r (n / 10) (tenth h e) (fewer r n (ltb-false n 10 e) f))

pub fewest_decimal : {r n : ℕ} → IsDigitCount 10 1 n r → last_digits 10 r n ≡ decimal n
fewest_decimal {r} {n} f = all_steps (suc n) r n (omega arith) f

-- a number of 64 bits has at most 20 digits
pub fewest_short : {r n : ℕ} → n < 2 ^ 64 → IsDigitCount 10 1 n r → r ≤ 20
fewest_short {r} {n} h f = go (leb r 20) refl
  where
    go : (b : Bool) → leb r 20 ≡ b → r ≤ 20
    go true e = leb-true r 20 e
    go false e =
        let long : 20 ≤ r - 1 = omega (arith, leb-false r 20 e) in
        absurd (omega (arith, pow-le-pow_right {n = 10} (omega arith) long, f.2 (omega (arith, leb-false r 20 e))))
