-- What of a base's path stands before a reference's path, as a part of the base.
use Rattle.std.specs.Prelude.{ℕ, ◌≤◌, ◌≡◌, List, [], ◌∷◌}
use Rattle.std.proofs.Math.Option.{Option, none, some}
use Rattle.octets.specs.Text.{octets}
use Rattle.kinds.specs.declared.Span.{Span}
use Rattle.tables.specs.Good.{InText}
use Rattle.references.specs.Components.{Parts}
use Rattle.resolution.specs.Resolve.{folder}
use Rattle.bare.specs.Bare.{bare_of}
use Rattle.routes.specs.Laid.{part}

-- nothing, or a text that ends with a slash
abbrev pub Closed : List ℕ → Type 0
Closed [] = Unit
Closed (c ∷ []) = c ≡ 47
Closed (c ∷ d ∷ w) = Closed (d ∷ w)

-- the path in s from place a to place e has its folder up to place r
pub record FolderEnds (s : List ℕ) (a e r : ℕ) : Type 0 where
  pub from : a ≤ r
  pub to : r ≤ e
  pub folder : bare_of s a r ≡ folder (bare_of s a e)
  pub closed : Closed (bare_of s a r)

-- what is put before a path behind this authority and this path of a base
abbrev pub root : Option (List ℕ) → List ℕ → List ℕ
root (some a) [] = octets "/"
root (some a) (c ∷ p) = folder (c ∷ p)
root none p = folder p

-- the part of a base that is put before a path, if the base has the components p
pub record Roots (base : List ℕ) (p : Parts) (u : Span) : Type 0 where
  pub inside : InText base u.from.0 u.to.0
  pub root : part base u ≡ root p.authority p.path
  pub closed : Closed (part base u)
