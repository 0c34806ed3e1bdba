-- The octets of a result, as they stand in a base and in a text with the reference.
use Rattle.std.specs.Prelude.{ℕ, ◌+◌, ◌≤◌, ◌≡◌, List, ◌++◌, length}
use Rattle.std.proofs.Math.Seq.{slice}
use Rattle.kinds.specs.declared.Span.{Span}
use Rattle.tables.specs.Good.{InText}
use Rattle.resolution.specs.Walking.{at_end, text}
use Rattle.bare.specs.Bare.{bare_of}
use Rattle.routes.specs.declared.Route.{Route}
use Rattle.routes.specs.declared.Lengths.{Lengths}

-- a part without its backslashes
abbrev pub part : List ℕ → Span → List ℕ
part s p = bare_of s p.from.0 p.to.0

-- a path in both texts, its dots removed from the right end
abbrev pub path_laid : List ℕ → List ℕ → Route → List ℕ
path_laid base s r = text (part base r.folder ++ part s r.own) at_end

abbrev pub laid : List ℕ → List ℕ → Route → List ℕ
laid base s r = slice 0 r.head.0 base ++ (part s r.front ++ (path_laid base s r ++ part s r.tail))

-- all parts lie in their texts
pub record Lies (base s : List ℕ) (r : Route) : Type 0 where
  pub head : r.head.0 ≤ length base
  pub front : InText s r.front.from.0 r.front.to.0
  pub folder : InText base r.folder.from.0 r.folder.to.0
  pub own : InText s r.own.from.0 r.own.to.0
  pub tail : InText s r.tail.from.0 r.tail.to.0

-- n has where the path ends and how long the result is
pub record Measured (base s : List ℕ) (r : Route) (n : Lengths) : Type 0 where
  pub path : n.path ≡ r.head.0 + length (part s r.front) + length (path_laid base s r)
  pub whole : n.whole ≡ length (laid base s r)
