-- The first segment of a path is `.`, `..` or any other, and what the steps A to E and the trimming do with it. Assumes nothing.
use Prim.Native.Nat.{ℕ}
use mathlib.Core.Path.{◌≡◌, refl}
use mathlib.Core.Bool.{Bool, true, false, cond, ◌||◌}
use mathlib.Core.List.{List, [], ◌∷◌}
use lib.Dec.{eqb}
use borrow.Author.Tests.{eqb-true}
use Rattle.octets.specs.Text.{octets}
use Rattle.references.specs.Components.{before}
use Rattle.resolution.specs.Dots.{first_moved, step_on}
use Rattle.resolution.specs.Segments.{is_dots}
use Rattle.resolution.specs.Walking.{trimmed}

-- w doesn't begin with a slash
abbrev pub Rootless : List ℕ → Type 0
Rootless [] = Unit
Rootless (c ∷ w) = eqb c 47 ≡ false

-- the first segment is no dot segment: it is moved, behind a slash or at the path's left end, and nothing is trimmed
pub record Other (w : List ℕ) : Type 0 where
  pub no_dots : is_dots (before (octets "/") w) ≡ false
  pub moved : step_on (47 ∷ w) ≡ first_moved (47 ∷ w)
  pub moved_first : Rootless w → step_on w ≡ first_moved w
  pub whole : trimmed w ≡ w

pub data First (w : List ℕ) : Type 0 where
  dot : w ≡ 46 ∷ [] → First w
  dot_slash : (v : List ℕ) → w ≡ 46 ∷ 47 ∷ v → First w
  dots : w ≡ 46 ∷ 46 ∷ [] → First w
  dots_slash : (v : List ℕ) → w ≡ 46 ∷ 46 ∷ 47 ∷ v → First w
  other : Other w → First w

-- ---- what begins with no dot

undotted : (a : ℕ) (u : List ℕ) → eqb a 46 ≡ false → is_dots (a ∷ u) ≡ false
undotted a [] e = e
undotted a (b ∷ []) e = rw e refl
undotted a (b ∷ c ∷ u) e = refl

pub untrimmed : (a : ℕ) (w : List ℕ) → eqb a 46 ≡ false → trimmed (a ∷ w) ≡ a ∷ w
untrimmed a [] e = rw e refl
untrimmed a (b ∷ []) e = rw e refl
untrimmed a (b ∷ c ∷ w) e = rw e refl

no_dot : (a : ℕ) (w : List ℕ) → eqb a 46 ≡ false → Other (a ∷ w)
no_dot a w e =
    record { no_dots = go (eqb a 47); moved = rw e refl; moved_first = λ n. rw (e, n) refl; whole = untrimmed a w e }
  where
    go : (z : Bool) → is_dots (cond (z || false) [] (a ∷ before (octets "/") w)) ≡ false
    go true = refl
    go false = undotted a (before (octets "/") w) e

-- ---- what begins with one

dot_only : (b : ℕ) (u : List ℕ) → eqb b 46 ≡ false → is_dots (46 ∷ b ∷ u) ≡ false
dot_only b [] e = e
dot_only b (c ∷ u) e = refl

dot_untrimmed : (b : ℕ) (w : List ℕ) → eqb b 46 ≡ false → eqb b 47 ≡ false → trimmed (46 ∷ b ∷ w) ≡ 46 ∷ b ∷ w
dot_untrimmed b [] e s = rw (e, s) refl
dot_untrimmed b (c ∷ w) e s = rw (e, s) refl

one_dot : (b : ℕ) (w : List ℕ) → eqb b 46 ≡ false → eqb b 47 ≡ false → Other (46 ∷ b ∷ w)
one_dot b w e s =
    record {
      no_dots = rw s (dot_only b (before (octets "/") w) e);
      moved = rw (e, s) refl;
      moved_first = λ n. rw (e, s) refl;
      whole = dot_untrimmed b w e s;
    }

two_dots : (c : ℕ) (w : List ℕ) → eqb c 47 ≡ false → Other (46 ∷ 46 ∷ c ∷ w)
two_dots c w s =
    record { no_dots = rw s refl; moved = rw s refl; moved_first = λ n. rw s refl; whole = rw s refl }

behind_two : (w : List ℕ) → First (46 ∷ 46 ∷ w)
behind_two [] = dots refl
behind_two (c ∷ w) = go (eqb c 47) refl
  where
    go : (z : Bool) → eqb c 47 ≡ z → First (46 ∷ 46 ∷ c ∷ w)
    go true e = rw (eqb-true c 47 e) (dots_slash w refl)
    go false e = other (two_dots c w e)

behind_one : (w : List ℕ) → First (46 ∷ w)
behind_one [] = dot refl
behind_one (b ∷ w) = go (eqb b 46) refl (eqb b 47) refl
  where
    go : (d : Bool) → eqb b 46 ≡ d → (s : Bool) → eqb b 47 ≡ s → First (46 ∷ b ∷ w)
    go true e s f = rw (eqb-true b 46 e) (behind_two w)
    go false e true f = rw (eqb-true b 47 f) (dot_slash w refl)
    go false e false f = other (one_dot b w e f)

pub first : (w : List ℕ) → First w
first [] = other (record { no_dots = refl; moved = refl; moved_first = λ n. refl; whole = refl })
first (a ∷ w) = go (eqb a 46) refl
  where
    go : (z : Bool) → eqb a 46 ≡ z → First (a ∷ w)
    go true e = rw (eqb-true a 46 e) (behind_one w)
    go false e = other (no_dot a w e)
