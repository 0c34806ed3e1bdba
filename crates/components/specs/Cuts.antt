-- The components of a text as places in it.
use Rattle.std.specs.Prelude.{ℕ, ◌≤◌, ◌<◌, ◌≡◌, List, [], ◌∷◌, get_or}
use Rattle.std.proofs.Math.Option.{none, IsSome}
use Rattle.octets.specs.Text.{octets}
use Rattle.references.specs.Components.{Parts, marked, ended, split}
use Rattle.bare.specs.Bare.{bare_of}
use Rattle.components.specs.declared.Cuts.{Cuts}

-- The components p of a text lie between the places of c, in s from place a to place e. Two places are the same just if the component
-- between them isn't there, and a path's first octet stands where the path begins.
pub record CutsInto (s : List ℕ) (a e : ℕ) (c : Cuts) (p : Parts) : Type 0 where
  pub in_order : a ≤ c.from.0
  pub scheme_after : c.from.0 ≤ c.scheme.0
  pub path_after : c.scheme.0 ≤ c.path.0
  pub query_after : c.path.0 ≤ c.query.0
  pub fragment_after : c.query.0 ≤ c.fragment.0
  pub in_part : c.fragment.0 ≤ e
  pub nothing : bare_of s a c.from.0 ≡ []
  pub scheme : bare_of s c.from.0 c.scheme.0 ≡ ended (octets ":") p.scheme
  pub authority : bare_of s c.scheme.0 c.path.0 ≡ marked (octets "//") p.authority
  pub path : bare_of s c.path.0 c.query.0 ≡ p.path
  pub query : bare_of s c.query.0 c.fragment.0 ≡ marked (octets "?") p.query
  pub fragment : bare_of s c.fragment.0 e ≡ marked (octets "#") p.fragment
  pub no_scheme : c.scheme.0 ≡ c.from.0 → p.scheme ≡ none
  pub some_scheme : (c.scheme.0 ≡ c.from.0 → ⊥) → IsSome p.scheme
  pub no_authority : c.path.0 ≡ c.scheme.0 → p.authority ≡ none
  pub some_authority : (c.path.0 ≡ c.scheme.0 → ⊥) → IsSome p.authority
  pub no_path : c.query.0 ≡ c.path.0 → p.path ≡ []
  pub first : c.path.0 < c.query.0 → (v : List ℕ) × (p.path ≡ get_or s c.path.0 0 ∷ v)
  pub no_query : c.fragment.0 ≡ c.query.0 → p.query ≡ none
  pub some_query : (c.fragment.0 ≡ c.query.0 → ⊥) → IsSome p.query

abbrev pub CutsOf : List ℕ → ℕ → ℕ → Cuts → Type 0
CutsOf s a e c = CutsInto s a e c (split (bare_of s a e))
