-- How a part of a text begins, read without its backslashes.
use Rattle.std.specs.Prelude.{ℕ, ◌≤◌, ◌<◌, ◌≡◌, List, [], ◌∷◌}
use Rattle.resolution.specs.Walking.{trimmed}
use Rattle.bare.specs.Bare.{bare_of}

-- w doesn't begin with the octet c
abbrev pub NotFirst : ℕ → List ℕ → Type 0
NotFirst c [] = Unit
NotFirst c (x ∷ w) = x ≡ c → ⊥

-- of the part of s from place k to place e: it begins with c, and place r is behind it; or it doesn't, and r is k
pub record Behind (s : List ℕ) (k e c r : ℕ) : Type 0 where
  pub from : k ≤ r
  pub to : r ≤ e
  pub none : r ≡ k → NotFirst c (bare_of s k e)
  pub one : k < r → bare_of s k e ≡ c ∷ bare_of s r e

-- it begins with a dot segment, and place r is behind that; or it doesn't, and r is k
pub record Leads (s : List ℕ) (k e r : ℕ) : Type 0 where
  pub from : k ≤ r
  pub to : r ≤ e
  pub none : r ≡ k → trimmed (bare_of s k e) ≡ bare_of s k e
  pub one : k < r → trimmed (bare_of s k e) ≡ trimmed (bare_of s r e)

-- place r is behind all dot segments that it begins with
pub record Trims (s : List ℕ) (k e r : ℕ) : Type 0 where
  pub from : k ≤ r
  pub to : r ≤ e
  pub trimmed : bare_of s r e ≡ trimmed (bare_of s k e)
