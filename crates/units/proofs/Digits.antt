-- The number of a hex digit, by one test at each octet.
use Prim.Native.Nat.{ℕ, ◌+◌, ◌*◌, ◌/◌, ◌%◌, ◌≤◌}
use mathlib.Core.Path.{◌≡◌, refl}
use mathlib.Core.Bool.{true, ◌&&◌}
use lib.Dec.{eqb, leb}
use borrow.Author.Tests.{eqb-true, leb-true}
use Rattle.octets.specs.Sets.{is_hex, is_digit}
use Rattle.octets.proofs.Octets.{both, within}
use Rattle.octets.proofs.Laws.{hex_octet}
use Rattle.extended.specs.Value.{hex_value}

-- as it is computed
abbrev number : ℕ → ℕ
number c = c % 16 + 9 * (c / 64)

pub hex_number : (c : ℕ) → is_hex c ≡ true → (number c ≡ hex_value c) × (number c ≤ 15)
unfolding hex_value is_hex is_digit
hex_number c h =
    let b = both (eqb (number c) (hex_value c)) (leb (number c) 15) (within is_hex (λ d. eqb (number d) (hex_value d) && leb (number d) 15) hex_octet refl c h) in
    (eqb-true (number c) (hex_value c) b.0, leb-true (number c) 15 b.1)
