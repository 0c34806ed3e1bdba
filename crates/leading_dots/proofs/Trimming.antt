-- How dot segments at the beginning are told. Assumes nothing.
use Prim.Native.Nat.{ℕ}
use mathlib.Core.Path.{◌≡◌, refl}
use mathlib.Core.List.{List, [], ◌∷◌}
use borrow.Author.Tests.{ne_eqb}
use Rattle.resolution.specs.Walking.{trimmed}
use Rattle.leading_dots.specs.Leads.{NotFirst}

-- ---- w begins with one dot and v behind it, or with two

pub data Dots (w v : List ℕ) : Type 0 where
  one : w ≡ 46 ∷ v → NotFirst 46 v → Dots w v
  two : w ≡ 46 ∷ 46 ∷ v → Dots w v

pub alone_goes : (w v : List ℕ) → Dots w v → v ≡ [] → trimmed w ≡ []
alone_goes w v (one e n) f = rw (e, f) refl
alone_goes w v (two e) f = rw (e, f) refl

pub slash_goes : (v : List ℕ) → trimmed (46 ∷ 47 ∷ v) ≡ trimmed v
slash_goes [] = refl
slash_goes (c ∷ v) = refl

pub with_slash : (w v u : List ℕ) → Dots w v → v ≡ 47 ∷ u → trimmed w ≡ trimmed u
with_slash w v u (one e n) f = rw (e, f) (slash_goes u)
with_slash w v u (two e) f = rw (e, f) refl

-- ---- any other beginning stays

two_stay : (c : ℕ) (u : List ℕ) → (c ≡ 47 → ⊥) → trimmed (46 ∷ 46 ∷ c ∷ u) ≡ 46 ∷ 46 ∷ c ∷ u
two_stay c u h = rw (ne_eqb c 47 h) refl

one_stays : (c : ℕ) (u : List ℕ) → (c ≡ 46 → ⊥) → (c ≡ 47 → ⊥) → trimmed (46 ∷ c ∷ u) ≡ 46 ∷ c ∷ u
one_stays c [] g h = rw (ne_eqb c 46 g, ne_eqb c 47 h) refl
one_stays c (d ∷ u) g h = rw (ne_eqb c 46 g, ne_eqb c 47 h) refl

pub other_stays : (w v : List ℕ) (c : ℕ) (u : List ℕ) → Dots w v → v ≡ c ∷ u → (c ≡ 47 → ⊥) → trimmed w ≡ w
other_stays w v c u (one e n) f h = rw (e, f) (one_stays c u (rw f at n) h)
other_stays w v c u (two e) f h = rw (e, f) (two_stay c u h)

pub no_dot_stays : (w : List ℕ) → NotFirst 46 w → trimmed w ≡ w
no_dot_stays [] h = refl
no_dot_stays (a ∷ []) h = rw (ne_eqb a 46 h) refl
no_dot_stays (a ∷ b ∷ []) h = rw (ne_eqb a 46 h) refl
no_dot_stays (a ∷ b ∷ c ∷ w) h = rw (ne_eqb a 46 h) refl
