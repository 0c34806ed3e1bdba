-- The bit that parts small letters from capitals: an octet with it set tells what the octet is folded to. Assumes nothing.
use Prim.Native.Nat.{ℕ, ◌+◌, ◌<◌}
use native.Mathlib.Omega.{arith}
use mathlib.Core.Path.{◌≡◌, refl}
use mathlib.Core.Bool.{Bool, true, false, cond, not, ◌||◌}
use lib.Bits.{bit_or}
use lib.Dec.{eqb}
use borrow.Author.Tests.{eqb-true}
use Rattle.octets.specs.Sets.{between}
use Rattle.octets.specs.Fold.{fold}
use Rattle.octets.proofs.Octets.{every_at, only_if, unless_so, between_bounds}

-- an octet with that bit set
abbrev pub low : ℕ → ℕ
low c = bit_or c 32

pub low_fold : (c : ℕ) → low (fold c) ≡ low c
unfolding fold
low_fold c = go (between 65 90 c) refl
  where
    go : (b : Bool) → between 65 90 c ≡ b → low (cond (between 65 90 c) (c + 32) c) ≡ low c
    go true e =
        rw e
        (eqb-true (low (c + 32)) (low c)
        (only_if (between 65 90 c) (eqb (low (c + 32)) (low c))
        (every_at (λ d. not (between 65 90 d) || eqb (low (d + 32)) (low d)) 91 refl c (omega (arith, (between_bounds 65 90 c e).1)))
        e))
    go false e = rw e

-- a letter, in either case, is folded to itself with the bit set
pub letter_folded : (c : ℕ) → c < 256 → between 97 122 (low c) ≡ true → fold c ≡ low c
unfolding fold
letter_folded c h l =
    eqb-true (fold c) (low c)
    (only_if (between 97 122 (low c)) (eqb (fold c) (low c))
    (every_at (λ d. not (between 97 122 (low d)) || eqb (fold d) (low d)) 256 refl c h) l)

-- and every other octet stays
pub other_folded : (c : ℕ) → c < 256 → between 97 122 (low c) ≡ false → fold c ≡ c
unfolding fold
other_folded c h o =
    eqb-true (fold c) c
    (unless_so (between 97 122 (low c)) (eqb (fold c) c)
    (every_at (λ d. between 97 122 (low d) || eqb (fold d) d) 256 refl c h) o)
