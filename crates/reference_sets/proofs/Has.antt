-- Tests in code against the sets of the grammar, where the two aren't the same text. Assumes nothing.
use Prim.Native.Nat.{ℕ}
use mathlib.Core.Path.{◌≡◌, refl, ap}
use mathlib.Core.Bool.{Bool, true, false, cond, ◌||◌}
use lib.Dec.{eqb}
use Rattle.octets.specs.Sets.{is_hex, is_digit}
use Rattle.references.specs.Octets.{has, HEXDIG, vee}

-- one of two states, where the test is known
pub yes : (b : Bool) (x y : ℕ) → b ≡ true → cond b x y ≡ x
yes b x y e = rw e

pub hex_has : (c : ℕ) → is_hex c ≡ has HEXDIG c
unfolding is_hex is_digit
hex_has c = refl

or_false : (b : Bool) → b ≡ (b || false)
or_false true = refl
or_false false = refl

pub vee_has : (c : ℕ) → (eqb c 118 || eqb c 86) ≡ has vee c
vee_has c = ap (λ (b : Bool). eqb c 118 || b) (or_false (eqb c 86))
