-- The decimal digits of a number: they read back as it, and have no zero in front. Assumes nothing.
use Prim.Native.Nat.{ℕ, zero, suc, ◌+◌, ◌-◌, ◌*◌, ◌/◌, ◌%◌, ◌<◌}
use native.Mathlib.Nat.{div-add-mod, mod-lt, mod-eq_of_lt, div-lt_self}
use native.Mathlib.Omega.{arith}
use mathlib.Core.Bool.{Bool, true, false, cond, ◌&&◌}
use mathlib.Core.List.{List, [], ◌∷◌, ◌++◌}
use mathlib.Core.Path.{◌≡◌, refl, ◌∙◌}
use borrow.Author.Tests.{ltb-true, ltb-false, le-leb}
use lib.Dec.{ltb}
use lib.ListN.{get_or}
use Rattle.octets.specs.Sets.{all, is_digit}
use Rattle.columns.specs.Decimal.{digits_up_to, read_from, DecimalHolds}

-- n is 10 or more: n / 10 is below any bound on the digits behind it
pub tenth : {n k : ℕ} → n < suc k → ltb n 10 ≡ false → n / 10 < k
tenth {n} {k} h e =
    let large = ltb-false n 10 e in
    omega (arith, div-lt_self {n = n} {k = 10} (omega arith) (omega arith))

-- ---- digits

is_digit_lem : (n : ℕ) → is_digit (48 + n % 10) ≡ true
unfolding is_digit
is_digit_lem n =
    let low = mod-lt n {m = 10} (omega arith) in
    rw (le-leb 48 (48 + n % 10) (omega arith), le-leb (48 + n % 10) 57 (omega arith))

all_then : (s : List ℕ) (c : ℕ) → all is_digit s ≡ true → is_digit c ≡ true → all is_digit (s ++ (c ∷ [])) ≡ true
all_then [] c h d = rw d
all_then (x ∷ s) c h d = go (is_digit x) h (λ e. all_then s c e d)
  where
    go : (b : Bool) → b && all is_digit s ≡ true → (all is_digit s ≡ true → all is_digit (s ++ (c ∷ [])) ≡ true)
        → b && all is_digit (s ++ (c ∷ [])) ≡ true
    go true h rest = rest h
    go false h rest = h

digits_step : (b : Bool) (n : ℕ) (s : List ℕ) → (b ≡ false → all is_digit s ≡ true)
    → all is_digit (cond b [] s ++ ((48 + n % 10) ∷ [])) ≡ true
digits_step true n s h = all_then [] (48 + n % 10) refl (is_digit_lem n)
digits_step false n s h = all_then s (48 + n % 10) (h refl) (is_digit_lem n)

digits_hold : (k n : ℕ) → n < k → all is_digit (digits_up_to k n) ≡ true
unfolding digits_up_to
digits_hold zero n h = refl
digits_hold (suc k) n h = digits_step (ltb n 10) n (digits_up_to k (n / 10)) (λ e. digits_hold k (n / 10) (tenth h e))

-- ---- the number

read_then : (s : List ℕ) (m c : ℕ) → read_from m (s ++ (c ∷ [])) ≡ 10 * read_from m s + (c - 48)
unfolding read_from
read_then [] m c = refl
read_then (x ∷ s) m c = read_then s (10 * m + (x - 48)) c

number_step : (b : Bool) (n : ℕ) (s : List ℕ) → ltb n 10 ≡ b → (b ≡ false → read_from 0 s ≡ n / 10)
    → read_from 0 (cond b [] s ++ ((48 + n % 10) ∷ [])) ≡ n
unfolding read_from
number_step true n s e h =
    let small = ltb-true n 10 e in
    let last : n % 10 ≡ n = mod-eq_of_lt small in
    omega arith
number_step false n s e h =
    read_then s 0 (48 + n % 10) ∙ omega (arith, h refl, div-add-mod n 10)

number_holds : (k n : ℕ) → n < k → read_from 0 (digits_up_to k n) ≡ n
unfolding digits_up_to
number_holds zero n h = absurd (omega arith)
number_holds (suc k) n h = number_step (ltb n 10) n (digits_up_to k (n / 10)) refl (λ e. number_holds k (n / 10) (tenth h e))

-- ---- no zero in front

first_stays : (s t : List ℕ) → 48 < get_or s 0 0 → 48 < get_or (s ++ t) 0 0
first_stays [] t h = absurd (omega arith)
first_stays (c ∷ s) t h = h

front_step : (b : Bool) (n : ℕ) (s : List ℕ) → 0 < n → ltb n 10 ≡ b → (b ≡ false → 48 < get_or s 0 0)
    → 48 < get_or (cond b [] s ++ ((48 + n % 10) ∷ [])) 0 0
front_step true n s p e h =
    let small = ltb-true n 10 e in
    let last : n % 10 ≡ n = mod-eq_of_lt small in
    omega arith
front_step false n s p e h = first_stays s ((48 + n % 10) ∷ []) (h refl)

front_holds : (k n : ℕ) → n < k → 0 < n → 48 < get_or (digits_up_to k n) 0 0
unfolding digits_up_to
front_holds zero n h p = absurd (omega arith)
front_holds (suc k) n h p =
    front_step (ltb n 10) n (digits_up_to k (n / 10)) p refl
    (λ e.
    let large = ltb-false n 10 e in
    front_holds k (n / 10) (tenth h e) (omega (arith, div-add-mod n 10, mod-lt n {m = 10} (omega arith))))

pub decimal_holds : DecimalHolds
unfolding digits_up_to
decimal_holds =
    record {
      digits = λ n. digits_hold (suc n) n (omega arith);
      number = λ n. number_holds (suc n) n (omega arith);
      of_zero = refl;
      no_leading_zero = λ n p. front_holds (suc n) n (omega arith) p;
    }
