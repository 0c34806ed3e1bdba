-- What is awaited behind an octet, as the code tells it by tests. Assumes nothing.
use Prim.Native.Nat.{ℕ, zero, suc, ◌-◌}
use native.Mathlib.Omega.{arith}
use mathlib.Core.Path.{◌≡◌, refl, sym}
use mathlib.Core.Bool.{true, false, ◌&&◌}
use lib.Dec.{leb}
use Rattle.sequences.specs.declared.Awaited.{Awaited}
use Rattle.sequences.specs.Awaited.{tails, impossible, behind_first, behind_from, behind}

pub at_first : (t : Awaited) (c : ℕ) → t.count ≡ 0 → behind_first c ≡ behind t c
unfolding behind
at_first t c e = sym (rw e refl)

next_from : (n a b c : ℕ) → (n ≡ 0 → ⊥) → (leb a c && leb c b) ≡ true → tails (n - 1) ≡ behind_from n a b c
next_from zero a b c z e = absurd (z refl)
next_from (suc n) a b c z e = let one_less : suc n - 1 ≡ n = omega arith in sym (rw (e, one_less) refl)

other_from : (n a b c : ℕ) → (n ≡ 0 → ⊥) → (leb a c && leb c b) ≡ false → impossible ≡ behind_from n a b c
other_from zero a b c z e = absurd (z refl)
other_from (suc n) a b c z e = sym (rw e refl)

module _ (t : Awaited) (c : ℕ) (z : t.count ≡ 0 → ⊥) where
  pub at_next : (leb t.low c && leb c t.high) ≡ true → tails (t.count - 1) ≡ behind t c
  unfolding behind
  at_next e = next_from t.count t.low t.high c z e

  pub at_other : (leb t.low c && leb c t.high) ≡ false → impossible ≡ behind t c
  unfolding behind
  at_other e = other_from t.count t.low t.high c z e
