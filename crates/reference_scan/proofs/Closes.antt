-- Octets that are taken in no state: `>`, and a backslash. Assumes nothing.
use Prim.Native.Nat.{ℕ}
use mathlib.Core.Path.{◌≡◌, refl}
use mathlib.Core.Bool.{Bool, true, false}
use lib.Dec.{eqb, ltb}
use borrow.Author.Tests.{eqb-true, ltb-true, ltb-false}
use Rattle.octets.proofs.Octets.{every, every_at}
use Rattle.reference_steps.specs.Machine.{step}
use Rattle.reference_sets.proofs.Moves.{no_step}

-- an octet of which it is computed that no state takes it
never : (c : ℕ) → every (λ p. eqb (step p c) 54) 580 ≡ true → (q : ℕ) → step q c ≡ 54
never c test q = side (ltb q 580) refl
  where
    side : (t : Bool) → ltb q 580 ≡ t → step q c ≡ 54
    side true w = eqb-true (step q c) 54 (every_at (λ p. eqb (step p c) 54) 580 test q (ltb-true q 580 w))
    side false w = no_step q c (ltb-false q 580 w)

pub closes : (q : ℕ) → step q 62 ≡ 54
unfolding step
closes = never 62 refl

pub no_backslash : (q : ℕ) → step q 92 ≡ 54
unfolding step
no_backslash = never 92 refl
