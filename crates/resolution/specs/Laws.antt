-- What is proved of resolution.
use Rattle.std.specs.Prelude.{ℕ, ◌≡◌, List, [], ◌∷◌, ◌++◌, ◌⊎◌, length}
use Rattle.std.proofs.Math.Option.{none, IsSome}
use Rattle.octets.specs.Text.{octets}
use Rattle.references.specs.AppendixA.{IsReference, IsURI}
use Rattle.references.specs.Components.{Parts, Splits, marked, ended, recompose, split}
use Rattle.resolution.specs.Dots.{remove_dots}
use Rattle.resolution.specs.Resolve.{transform, resolved, unfragmented}
use Rattle.resolution.specs.Segments.{Dotless}
use Rattle.resolution.specs.Walking.{at_end, run, text, trimmed}

-- what stands left of the path
abbrev pub left_of_path : Parts → List ℕ
left_of_path p = ended (octets ":") p.scheme ++ marked (octets "//") p.authority

-- the path of the reference takes the base's as it is
pub record TakesPath (r : Parts) : Type 0 where
  pub no_scheme : r.scheme ≡ none
  pub no_authority : r.authority ≡ none
  pub no_path : r.path ≡ []

-- Whatever its dots are, a reference can't climb: left of the path stands, untouched, the scheme and the authority that the reference has
-- or else the base's, and the path, unless it is the base's taken as it is, has no segment `.` or `..`. A path with a slash first keeps it.
pub record CannotClimb : Type 0 where
  pub own_scheme : (b r : Parts) → IsSome r.scheme → left_of_path (transform b r) ≡ left_of_path r
  pub own_authority : (b r : Parts) → r.scheme ≡ none → IsSome r.authority
      → left_of_path (transform b r) ≡ ended (octets ":") b.scheme ++ marked (octets "//") r.authority
  pub of_base : (b r : Parts) → r.scheme ≡ none → r.authority ≡ none → left_of_path (transform b r) ≡ left_of_path b
  pub path : (b r : Parts) → (TakesPath r × ((transform b r).path ≡ b.path)) ⊎ Dotless (transform b r).path
  pub rooted : (w : List ℕ) → (v : List ℕ) × (remove_dots (47 ∷ w) ≡ 47 ∷ v)

-- Removing dots leaves no segment `.` or `..`; a path without them stays as it is; so removing them twice is removing them once.
pub record DotsRemoved : Type 0 where
  pub none_left : (w : List ℕ) → Dotless (remove_dots w)
  pub nothing_else : (w : List ℕ) → Dotless w → remove_dots w ≡ w
  pub once : (w : List ℕ) → remove_dots (remove_dots w) ≡ remove_dots w

-- A reference with a scheme and no dots resolves to itself, and the empty one to the base without its fragment.
pub record ItselfResolved : Type 0 where
  pub schemed : (base w : List ℕ) → IsSome (split w).scheme → Dotless (split w).path → resolved base w ≡ w
  pub empty : (base : List ℕ) → resolved base [] ≡ unfragmented base
  pub whole : (base : List ℕ) → (split base).fragment ≡ none → unfragmented base ≡ base

-- A base and a reference that are right have components, whichever way they are told, and the result is that of these.
pub record OneResult : Type 0 where
  pub one : (base w : List ℕ) (b r : Parts) → Splits base b → Splits w r → recompose (transform b r) ≡ resolved base w
  pub there : (base w : List ℕ) → IsURI base → IsReference w
      → (b r : Parts) × Splits base b × Splits w r × IsSome b.scheme

-- From the right end dots are removed just so, and as many octets are counted as are added.
pub record FromTheRight : Type 0 where
  pub same : (w : List ℕ) → remove_dots w ≡ text (trimmed w) at_end
  pub counted : (w : List ℕ) → (run w at_end).kept ≡ length (text w at_end)
