-- A fact about every octet, by one test that is computed at each. Assumes nothing.
use Prim.Native.Nat.{ℕ, zero, suc, ◌≤◌, ◌<◌}
use native.Mathlib.Nat.{le_of_suc-le-suc, eq-or-lt_of_le, not-suc-le-zero}
use native.Mathlib.Omega.{arith}
use mathlib.Core.Logic.{⊎_elim}
use mathlib.Core.Bool.{Bool, true, false, not, ◌&&◌, ◌||◌, false≢true, and-eq-true_iff}
use mathlib.Core.List.{List, [], ◌∷◌}
use mathlib.Core.Path.{◌≡◌, refl, sym}
use lib.Dec.{leb, ltb, eqb}
use borrow.Author.Tests.{leb-true, ltb-true, eqb-true}
use Rattle.octets.specs.Sets.{between, one_of}

pub both : (a b : Bool) → (a && b) ≡ true → (a ≡ true) × (b ≡ true)
both a b e = (and-eq-true_iff a b).0 e

-- f holds of each number below n
abbrev pub every : (ℕ → Bool) → ℕ → Bool
every f zero = true
every f (suc n) = f n && every f n

pub every_at : (f : ℕ → Bool) (n : ℕ) → every f n ≡ true → (c : ℕ) → c < n → f c ≡ true
every_at f zero e c h = absurd (not-suc-le-zero h)
every_at f (suc n) e c h =
    ⊎_elim (λ q. rw q (both (f n) (every f n) e).0) (λ l. every_at f n (both (f n) (every f n) e).1 c l)
    (eq-or-lt_of_le (le_of_suc-le-suc h))

-- f holds of octets only
abbrev pub Octets : (ℕ → Bool) → Type 0
Octets f = (c : ℕ) → f c ≡ true → c < 256

-- a test that passes wherever another does
pub only_if : (a b : Bool) → (not a || b) ≡ true → a ≡ true → b ≡ true
only_if true b e h = e
only_if false b e h = absurd (false≢true h)

-- and one that passes wherever another does not
pub unless_so : (a b : Bool) → (a || b) ≡ true → a ≡ false → b ≡ true
unless_so true b e h = absurd (false≢true (sym h))
unless_so false b e h = e

-- what is in f is in g, where that holds of every octet
pub within : (f g : ℕ → Bool) → Octets f → every (λ c. not (f c) || g c) 256 ≡ true → (c : ℕ) → f c ≡ true → g c ≡ true
within f g o e c h = only_if (f c) (g c) (every_at (λ k. not (f k) || g k) 256 e c (o c h)) h

-- that a set holds octets only, from what it is made of
pub or_octets : {f g : ℕ → Bool} → Octets f → Octets g → Octets (λ c. f c || g c)
or_octets {f} {g} p q c h = go (f c) refl h
  where
    go : (b : Bool) → f c ≡ b → (b || g c) ≡ true → c < 256
    go true e k = p c e
    go false e k = q c k

pub between_bounds : (a b c : ℕ) → between a b c ≡ true → (a ≤ c) × (c ≤ b)
between_bounds a b c h = (leb-true a c (both (leb a c) (leb c b) h).0, leb-true c b (both (leb a c) (leb c b) h).1)

pub between_octets : (a b : ℕ) → b < 256 → Octets (between a b)
between_octets a b l c h = omega (arith, (between_bounds a b c h).1)

pub one_octets : (a : ℕ) → a < 256 → Octets (λ c. eqb c a)
one_octets a l c h = omega (arith, eqb-true c a h)

abbrev pub all_octets : List ℕ → Bool
all_octets [] = true
all_octets (x ∷ xs) = ltb x 256 && all_octets xs

pub one_of_octets : (xs : List ℕ) → all_octets xs ≡ true → Octets (one_of xs)
one_of_octets [] e c h = absurd (false≢true h)
one_of_octets (x ∷ xs) e c h =
    or_octets (one_octets x (ltb-true x 256 (both (ltb x 256) (all_octets xs) e).0))
    (one_of_octets xs (both (ltb x 256) (all_octets xs) e).1)
    c h

-- two tests that agree at every octet
abbrev pub agree : Bool → Bool → Bool
agree true b = b
agree false b = not b

pub agreed : (a b : Bool) → agree a b ≡ true → a ≡ b
agreed true true e = refl
agreed true false e = absurd (false≢true e)
agreed false true e = absurd (false≢true e)
agreed false false e = refl

pub alike : (f g : ℕ → Bool) → every (λ c. agree (f c) (g c)) 256 ≡ true → (c : ℕ) → c < 256 → f c ≡ g c
alike f g e c h = agreed (f c) (g c) (every_at (λ k. agree (f k) (g k)) 256 e c h)
