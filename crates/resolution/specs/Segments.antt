-- The segments of a path (RFC 3986, section 3.3): what stands before, between and behind its slashes.
use Rattle.std.specs.Prelude.{ℕ, ◌≡◌, Bool, true, false, cond, not, ◌&&◌, List, [], ◌∷◌, eqb}
use Rattle.octets.specs.Text.{octets}

-- c stands before the first of these segments
abbrev pub with_first : ℕ → List (List ℕ) → List (List ℕ)
with_first c [] = (c ∷ []) ∷ []
with_first c (u ∷ us) = (c ∷ u) ∷ us

abbrev pub segments : List ℕ → List (List ℕ)
segments [] = [] ∷ []
segments (c ∷ w) = cond (eqb c 47) ([] ∷ segments w) (with_first c (segments w))

-- the segment is `.` or `..`
abbrev pub is_dots : List ℕ → Bool
is_dots [] = false
is_dots (a ∷ []) = eqb a 46
is_dots (a ∷ b ∷ []) = eqb a 46 && eqb b 46
is_dots (a ∷ b ∷ c ∷ w) = false

abbrev pub none_dots : List (List ℕ) → Bool
none_dots [] = true
none_dots (u ∷ us) = not (is_dots u) && none_dots us

-- no segment of the path is `.` or `..`
abbrev pub Dotless : List ℕ → Type 0
Dotless w = none_dots (segments w) ≡ true
