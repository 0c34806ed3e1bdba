-- A row of the table, which is a range for each octet of a sequence: what it derives, octet by octet. Assumes nothing.
use Prim.Native.Nat.{ℕ, ◌≤◌}
use mathlib.Core.Path.{refl}
use mathlib.Core.List.{List, [], ◌∷◌}
use borrow.Author.Tests.{le-leb}
use Rattle.octets.proofs.Octets.{between_bounds}
use Rattle.rules.specs.Rule.{Rule, one, ◌then◌, Derives}
use Rattle.utf8.specs.Sequences.{Range, in_range}

-- the octets from x to y, and those of a sequence's tail
abbrev pub to : ℕ → ℕ → Range
to x y = record { from = x; to = y }

abbrev pub tails : Range
tails = to 0x80 0xBF

abbrev pub row : Range → List Range → Rule Range
row r [] = one r
row r (s ∷ rs) = one r then row s rs

-- P holds of each text with one octet of each range
abbrev pub Each : List Range → (List ℕ → Type 0) → Type 0
Each [] P = P []
Each (r ∷ rs) P = (c : ℕ) → r.from ≤ c → c ≤ r.to → Each rs (λ w. P (c ∷ w))

-- so it holds of each text that the row derives
pub each_row : (r : Range) (rs : List Range) (P : List ℕ → Type 0) → Each (r ∷ rs) P → (u : List ℕ)
    → Derives in_range (row r rs) u → P u
each_row r [] P each u d =
    let b = between_bounds r.from r.to d.octet d.inside in rw d.is (each d.octet b.0 b.1)
each_row r (s ∷ rs) P each u d =
    let b = between_bounds r.from r.to d.first.octet d.first.inside in
    rw (d.whole, d.first.is)
    (each_row s rs (λ w. P (d.first.octet ∷ w)) (each d.first.octet b.0 b.1) d.right d.second)

-- w has one octet of each range
abbrev pub Fits : List Range → List ℕ → Type 0
Fits [] [] = Unit
Fits [] (c ∷ w) = ⊥
Fits (r ∷ rs) [] = ⊥
Fits (r ∷ rs) (c ∷ w) = (r.from ≤ c) × (c ≤ r.to) × Fits rs w

single : (r : Range) (c : ℕ) → r.from ≤ c → c ≤ r.to → Derives in_range (one r) (c ∷ [])
single r c l h = record { octet = c; is = refl; inside = rw (le-leb r.from c l, le-leb c r.to h) refl }

-- and the row derives each such text
pub fits_row : (r : Range) (rs : List Range) (w : List ℕ) → Fits (r ∷ rs) w → Derives in_range (row r rs) w
fits_row r rs [] f = absurd f
fits_row r [] (c ∷ []) f = single r c f.0 f.1
fits_row r [] (c ∷ d ∷ w) f = absurd f.2
fits_row r (s ∷ rs) (c ∷ w) f =
    record {
      left = c ∷ [];
      right = w;
      whole = refl;
      first = single r c f.0 f.1;
      second = fits_row s rs w f.2;
    }
