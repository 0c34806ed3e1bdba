-- What a reference can reach: the scheme and the authority that it doesn't have are the base's, and no dots are left. Assumes nothing.
use Prim.Native.Nat.{ℕ}
use mathlib.Core.Path.{◌≡◌, refl, subst}
use mathlib.Core.Bool.{cond}
use mathlib.Core.List.{List, [], ◌∷◌, ◌++◌}
use mathlib.Core.Logic.{◌⊎◌, inl, inr}
use mathlib.Core.Option.{Option, none, some, IsSome}
use lib.Dec.{eqb}
use Rattle.octets.specs.Text.{octets}
use Rattle.references.specs.Components.{Parts, marked, ended}
use Rattle.resolution.specs.Laws.{CannotClimb, TakesPath, left_of_path}
use Rattle.resolution.specs.Resolve.{transform_by, merge, path_on}
use Rattle.resolution.specs.Segments.{Dotless}
use Rattle.resolution.proofs.NoneLeft.{none_left, slash_left}

-- ---- left of the path

schemed : (b r : Parts) (s a : Option (List ℕ)) → IsSome s
    → left_of_path (transform_by b r s a) ≡ ended (octets ":") s ++ marked (octets "//") a
schemed b r none a i = absurd i
schemed b r (some s) a i = refl

authored : (b r : Parts) (s a : Option (List ℕ)) → s ≡ none → IsSome a
    → left_of_path (transform_by b r s a) ≡ ended (octets ":") b.scheme ++ marked (octets "//") a
authored b r (some s) a e i = absurd (subst IsSome e tt)
authored b r none none e i = absurd i
authored b r none (some a) e i = refl

-- ---- the path

-- p is a path that is the base's taken as it is, or has no dots
abbrev Reached : Parts → Parts → List ℕ → Type 0
Reached b r p = (TakesPath r × (p ≡ b.path)) ⊎ Dotless p

reached_on : (b r : Parts) → r.scheme ≡ none → r.authority ≡ none → (p : List ℕ) → r.path ≡ p → Reached b r (path_on b p)
reached_on b r s a [] e = inl (record { no_scheme = s; no_authority = a; no_path = e }, refl)
reached_on b r s a (c ∷ p) e = inr (none_left (cond (eqb c 47) (c ∷ p) (merge b.authority b.path (c ∷ p))))

reached : (b r : Parts) (s a : Option (List ℕ)) → r.scheme ≡ s → r.authority ≡ a → Reached b r (transform_by b r s a).path
reached b r (some s) a e f = inr (none_left r.path)
reached b r none (some a) e f = inr (none_left r.path)
reached b r none none e f = reached_on b r e f r.path refl

-- ---- the law

pub cannot_climb : CannotClimb
cannot_climb =
    record {
      own_scheme = λ b r i. schemed b r r.scheme r.authority i;
      own_authority = λ b r e i. authored b r r.scheme r.authority e i;
      of_base = λ b r e f. rw (e, f) refl;
      path = λ b r. reached b r r.scheme r.authority refl refl;
      rooted = slash_left;
    }
