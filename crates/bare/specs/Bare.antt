-- Octets without their backslashes.
use Rattle.std.specs.Prelude.{ℕ, ◌≤◌, ◌<◌, ◌≡◌, cond, List, [], ◌∷◌, eqb, get_or}
use Rattle.std.proofs.Math.Seq.{slice}

-- the octets without the backslashes
abbrev pub bare : List ℕ → List ℕ
bare [] = []
bare (c ∷ w) = cond (eqb c 92) (bare w) (c ∷ bare w)

-- those of the part of s from place a to place e
abbrev pub bare_of : List ℕ → ℕ → ℕ → List ℕ
bare_of s a e = bare (slice a e s)

-- from a to r there are backslashes only, and the octet at r, if it's before e, is none
pub record Past (s : List ℕ) (a e r : ℕ) : Type 0 where
  pub from : a ≤ r
  pub to : r ≤ e
  pub same : bare_of s a e ≡ bare_of s r e
  pub nothing : bare_of s a r ≡ []
  pub octet : r < e → get_or s r 0 ≡ 92 → ⊥
