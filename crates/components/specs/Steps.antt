-- One component cut off.
use Rattle.std.specs.Prelude.{ℕ, ◌≤◌, ◌≡◌, List}
use Rattle.std.proofs.Math.Option.{Option, none, IsSome}
use Rattle.octets.specs.Text.{octets}
use Rattle.references.specs.Components.{marked, ended, Cut, cut_scheme, cut_marked}
use Rattle.bare.specs.Bare.{bare_of}
use Rattle.components.specs.Looks.{Plain}

-- The part of a text from a to e is cut at r: up to r stands the component with its mark, as `whole` has it, and behind r the rest. The
-- two places are the same just if there is no such component.
pub record CutAt (cut : Cut) (whole : Option (List ℕ) → List ℕ) (s : List ℕ) (a e r : ℕ) : Type 0 where
  pub forward : a ≤ r
  pub inside : r ≤ e
  pub part : bare_of s a r ≡ whole cut.part
  pub rest : bare_of s r e ≡ cut.rest
  pub no_part : r ≡ a → cut.part ≡ none
  pub some_part : (r ≡ a → ⊥) → IsSome cut.part

abbrev pub scheme_of : List ℕ → Cut
scheme_of w = cut_scheme w

abbrev pub authority_of : List ℕ → Cut
authority_of w = cut_marked (octets "//") (octets "/?#") w

abbrev pub query_of : List ℕ → Cut
query_of w = cut_marked (octets "?") (octets "#") w

-- no backslash stands at the place behind a scheme or an authority
pub record SchemeCut (s : List ℕ) (a e r : ℕ) : Type 0 where
  pub cut : CutAt (scheme_of (bare_of s a e)) (ended (octets ":")) s a e r
  pub plain : Plain s r e

pub record AuthorityCut (s : List ℕ) (a e r : ℕ) : Type 0 where
  pub cut : CutAt (authority_of (bare_of s a e)) (marked (octets "//")) s a e r
  pub plain : Plain s r e

abbrev pub QueryCut : List ℕ → ℕ → ℕ → ℕ → Type 0
QueryCut s a e r = CutAt (query_of (bare_of s a e)) (marked (octets "?")) s a e r
