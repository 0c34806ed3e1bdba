-- What a line by value holds.
use Rattle.std.specs.Prelude.{ℕ, ◌+◌, List, ◌++◌, ◌≡◌, length, take}
use Rattle.io.specs.Counts.{IsPrefixLen}
use Rattle.columns.specs.declared.Line.{Line}

-- its first `len` octets
abbrev pub octets_of : Line → List ℕ
octets_of l = take l.len l.octets

-- the line holds just s, and may be cut where it ends
pub record LineHolds (l : Line) (s : List ℕ) : Type 0 where
  pub is : octets_of l ≡ s
  pub fits : IsPrefixLen l.len l.octets

-- the line m is the line l with s at its end
pub record Grown (l : Line) (s : List ℕ) (m : Line) : Type 0 where
  pub is : octets_of m ≡ octets_of l ++ s
  pub end : m.len ≡ l.len + length s
