-- How many octets an octet and a text take in a quoted string.
use Prim.Native.Nat.{ℕ, ◌+◌, ◌≤◌}
use native.Mathlib.Omega.{arith}
use mathlib.Core.Path.{◌≡◌, refl}
use mathlib.Core.Bool.{Bool, true, false, ◌||◌}
use mathlib.Core.List.{List, [], ◌∷◌}
use lib.Dec.{eqb}
use lib.ListN.{length}
use Rattle.octets.specs.Sets.{all}
use Rattle.octets.proofs.Octets.{both}
use Rattle.octets.proofs.Laws.{not_eqb}
use Rattle.tables.specs.Written.{escape_octet, escape}
use Rattle.shape.specs.Shape.{escaped_len}

pub escaped_length : (c : ℕ) (r : List ℕ) → length (escape_octet c r) ≡ escaped_len c + length r
escaped_length c r = go (eqb c 34 || eqb c 92) refl
  where
    go : (b : Bool) → (eqb c 34 || eqb c 92) ≡ b → length (escape_octet c r) ≡ escaped_len c + length r
    go true e = rw e (omega arith)
    go false e = rw e (omega arith)

pub escaped_bounds : (c : ℕ) → (1 ≤ escaped_len c) × (escaped_len c ≤ 2)
escaped_bounds c = go (eqb c 34 || eqb c 92) refl
  where
    go : (b : Bool) → (eqb c 34 || eqb c 92) ≡ b → (1 ≤ escaped_len c) × (escaped_len c ≤ 2)
    go true e = rw e (omega arith)
    go false e = rw e (omega arith)

-- where a set holds neither `"` nor a backslash, no octet of a text of that set gets a backslash
pub escape_clear : (f : ℕ → Bool) → f 34 ≡ false → f 92 ≡ false → (v : List ℕ) → all f v ≡ true → escape v ≡ v
escape_clear f q b [] h = refl
escape_clear f q b (c ∷ v) h =
    let both' = both (f c) (all f v) h in
    rw (not_eqb f 34 c q both'.0, not_eqb f 92 c b both'.0, escape_clear f q b v both'.1)
