-- A word read digit by digit, as far as m. Assumes nothing.
use Prim.Native.Nat.{ℕ, suc, ◌+◌, ◌-◌, ◌*◌, ◌≤◌, ◌<◌, min}
use native.Mathlib.Omega.{arith}
use native.Mathlib.Numerals.{add-one}
use native.Mathlib.Nat.{min-eq_left, min-eq_right, min-le_right}
use native.Mathlib.Decide.{dec_le}
use mathlib.Core.Path.{◌≡◌, refl, sym, ap, ◌∙◌}
use mathlib.Core.Bool.{Bool, true, false, cond, ◌&&◌}
use mathlib.Core.List.{List, [], ◌∷◌}
use lib.Dec.{ltb, leb}
use lib.ListN.{length, get_or, drop}
use lib.Seq.{drop-cons, drop-length}
use borrow.Author.Tests.{leb-true, lt-ltb, le-ltb, le-leb, lt-leb}
use Rattle.octets.specs.Sets.{all, is_digit}
use Rattle.columns.specs.Decimal.{read_from}
use Rattle.walk_words.specs.Words.{number_up_to}

-- a digit is no less than `0`
pub digit_low : (c : ℕ) → is_digit c ≡ true → 48 ≤ c
unfolding is_digit
digit_low c e = leb-true 48 c (go (leb 48 c) (leb c 57) e)
  where
    go : (a b : Bool) → a && b ≡ true → a ≡ true
    go true b q = refl
    go false b q = q

-- ---- as far as m

grows : (n : ℕ) (w : List ℕ) → n ≤ read_from n w
unfolding read_from
grows n [] = omega arith
grows n (c ∷ w) = omega (arith, grows (10 * n + (c - 48)) w)

-- what is read behind m or more is m or more
stays : (n m : ℕ) (w : List ℕ) → min (read_from n w) m ≡ min (read_from (min n m) w) m
stays n m w = go (dec_le n m)
  where
    go : Dec (n ≤ m) → min (read_from n w) m ≡ min (read_from (min n m) w) m
    go (yes h) = ap (λ (k : ℕ). min (read_from k w) m) (sym (min-eq_left h))
    go (no h) =
        let cut : min n m ≡ m = min-eq_right (omega arith) in
        min-eq_right (omega (arith, grows n w)) ∙ sym (min-eq_right (omega (arith, cut, grows (min n m) w)))

-- ---- the word w, up to place i: what is read so far stands for n

pub record SoFar (w : List ℕ) (m n i : ℕ) : Type 0 where
  pub inside : i ≤ length w
  pub small : n ≤ m
  pub digits : all is_digit w ≡ all is_digit (drop i w)
  pub number : min (read_from 0 w) m ≡ min (read_from n (drop i w)) m

pub begin : (w : List ℕ) (m : ℕ) → SoFar w m 0 0
begin w m = record { inside = omega arith; small = omega arith; digits = refl; number = refl }

module _ {w : List ℕ} {m n i : ℕ} (g : SoFar w m n i) where
  pub one_more : i < length w → is_digit (get_or w i 0) ≡ true → SoFar w m (min (10 * n + (get_or w i 0 - 48)) m) (i + 1)
  unfolding read_from
  one_more h d =
      rw (add-one i)
      (record {
        inside = omega arith;
        small = min-le_right (10 * n + (get_or w i 0 - 48)) m;
        digits = g.digits ∙ ap (all is_digit) (drop-cons w i 0 h) ∙ ap (λ (b : Bool). b && all is_digit (drop (suc i) w)) d;
        number =
            g.number
            ∙ ap (λ (v : List ℕ). min (read_from n v) m) (drop-cons w i 0 h)
            ∙ stays (10 * n + (get_or w i 0 - 48)) m (drop (suc i) w);
      })

  -- no digit
  pub other : (k : ℕ) → i < length w → is_digit (get_or w i 0) ≡ false → m ≡ number_up_to k m w
  other k h d = go (ltb 0 (length w)) (leb (length w) k) none
    where
      none : all is_digit w ≡ false
      none = g.digits ∙ ap (all is_digit) (drop-cons w i 0 h) ∙ ap (λ (b : Bool). b && all is_digit (drop (suc i) w)) d

      go : (a b : Bool) → all is_digit w ≡ false → m ≡ cond (a && b && all is_digit w) (min (read_from 0 w) m) m
      go true true e = rw e
      go true false e = refl
      go false b e = refl

  pub all_read : (k : ℕ) → 0 < length w → length w ≤ k → length w ≤ i → n ≡ number_up_to k m w
  unfolding read_from
  all_read k p s h =
      let end : i ≡ length w = omega (arith, g.inside) in
      let nothing : drop i w ≡ [] = ap (λ (j : ℕ). drop j w) end ∙ drop-length w in
      let whole : all is_digit w ≡ true = g.digits ∙ ap (all is_digit) nothing in
      rw (lt-ltb 0 (length w) p, le-leb (length w) k s, whole)
      (sym (g.number ∙ ap (λ (v : List ℕ). min (read_from n v) m) nothing ∙ min-eq_left g.small))

-- ---- too few digits, or too many

pub no_digits : (w : List ℕ) (k m : ℕ) → length w ≡ 0 → m ≡ number_up_to k m w
no_digits w k m h = rw (le-ltb 0 (length w) (omega arith)) refl

pub more_digits_lem : (w : List ℕ) (k m : ℕ) → k < length w → m ≡ number_up_to k m w
more_digits_lem w k m h = rw (lt-ltb 0 (length w) (omega arith), lt-leb (length w) k h) refl
