-- The five components of a reference (RFC 3986, section 3): how they make it (section 5.3), and how it is taken apart again by the first
-- of some octets, which is the way of Appendix B. A component that isn't there is undefined, which is not the same as empty: `a?` has a query and `a`
-- has none.
use Rattle.std.specs.Prelude.{ℕ, ◌≡◌, cond, List, [], ◌∷◌, ◌++◌, eqb}
use Rattle.std.proofs.Math.Option.{Option, none, some}
use Rattle.octets.specs.Text.{octets}
use Rattle.octets.specs.Sets.{one_of}
use Rattle.rules.specs.Rule.{Rule, ◌or◌, Derives}
use Rattle.references.specs.Octets.{Octets, has}
use Rattle.references.specs.AppendixA as rule

-- a path is always there, though it may be empty
pub record Parts : Type 0 where
  pub scheme : Option (List ℕ)
  pub authority : Option (List ℕ)
  pub path : List ℕ
  pub query : Option (List ℕ)
  pub fragment : Option (List ℕ)

-- ---- together

-- a component behind its mark m, and one before it; nothing, if it's undefined
abbrev pub marked : List ℕ → Option (List ℕ) → List ℕ
marked m none = []
marked m (some u) = m ++ u

abbrev pub ended : List ℕ → Option (List ℕ) → List ℕ
ended m none = []
ended m (some u) = u ++ m

abbrev pub recompose : Parts → List ℕ
recompose p =
    ended (octets ":") p.scheme
    ++ (marked (octets "//") p.authority ++ (p.path ++ (marked (octets "?") p.query ++ marked (octets "#") p.fragment)))

-- ---- by the grammar

-- the rule derives the component, if it's there
abbrev pub DerivesPart : Rule Octets → Option (List ℕ) → Type 0
DerivesPart r none = Unit
DerivesPart r (some u) = Derives has r u

-- the rule of a path behind this scheme and this authority
abbrev pub path_rule : Option (List ℕ) → Option (List ℕ) → Rule Octets
path_rule s (some a) = rule.path_abempty
path_rule (some s) none = rule.path_absolute or rule.path_rootless or rule.path_empty
path_rule none none = rule.path_absolute or rule.path_noscheme or rule.path_empty

-- p are the components of w
pub record Splits (w : List ℕ) (p : Parts) : Type 0 where
  pub whole : w ≡ recompose p
  pub scheme : DerivesPart rule.scheme p.scheme
  pub authority : DerivesPart rule.authority p.authority
  pub path : Derives has (path_rule p.scheme p.authority) p.path
  pub query : DerivesPart rule.query p.query
  pub fragment : DerivesPart rule.fragment p.fragment

-- ---- apart

-- the octets before the first one of cs, and that one with all behind it
abbrev pub before : List ℕ → List ℕ → List ℕ
before cs [] = []
before cs (c ∷ w) = cond (one_of cs c) [] (c ∷ before cs w)

abbrev pub from : List ℕ → List ℕ → List ℕ
from cs [] = []
from cs (c ∷ w) = cond (one_of cs c) (c ∷ w) (from cs w)

-- what stands behind m, if the text begins with m
abbrev pub behind : List ℕ → List ℕ → Option (List ℕ)
behind [] w = some w
behind (x ∷ m) [] = none
behind (x ∷ m) (c ∷ w) = cond (eqb c x) (behind m w) none

-- a component cut off, if it's there, and the rest
pub record Cut : Type 0 where
  pub part : Option (List ℕ)
  pub rest : List ℕ

-- u is cut off w if something, v, is left behind its mark; else all of w is left
abbrev pub cut_at : List ℕ → List ℕ → Option (List ℕ) → Cut
cut_at w u none = record { part = none; rest = w }
cut_at w u (some v) = record { part = some u; rest = v }

-- a scheme ends at a colon that none of `/?#` comes before
abbrev pub cut_scheme : List ℕ → Cut
cut_scheme w = cut_at w (before (octets ":/?#") w) (behind (octets ":") (from (octets ":/?#") w))

-- what stands behind the mark, v, is cut at the first octet of cs; without a mark all of w is left
abbrev pub cut_before : List ℕ → List ℕ → Option (List ℕ) → Cut
cut_before cs w none = record { part = none; rest = w }
cut_before cs w (some v) = record { part = some (before cs v); rest = from cs v }

-- a component with the mark m goes up to the first octet of cs
abbrev pub cut_marked : List ℕ → List ℕ → List ℕ → Cut
cut_marked m cs w = cut_before cs w (behind m w)

-- the components of a reference. Any other text is cut too, and nothing of it lost, but the parts mean nothing
abbrev pub split : List ℕ → Parts
split w =
    let s = cut_scheme w in
    let a = cut_marked (octets "//") (octets "/?#") s.rest in
    let q = cut_marked (octets "?") (octets "#") (from (octets "?#") a.rest) in
    record {
      scheme = s.part;
      authority = a.part;
      path = before (octets "?#") a.rest;
      query = q.part;
      fragment = behind (octets "#") q.rest;
    }
