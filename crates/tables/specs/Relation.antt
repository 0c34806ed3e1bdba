-- Relations of a link, and the parameters that are looked up by name.
use Rattle.std.specs.Prelude.{ℕ, Bool, true, false, ◌||◌, List, [], ◌∷◌, eqb}
use Rattle.std.proofs.Math.Option.{Option, none, some}
use Rattle.octets.specs.Text.{octets}
use Rattle.octets.specs.Fold.{same, same_folded}
use Rattle.grammar.specs.Link.{Link, Param}
use Rattle.grammar.specs.Kept.{name_of}
use Rattle.tables.specs.Meaning.{value_of}

-- the first of the parameters whose folded name is n
abbrev pub named : List ℕ → List ℕ → List Param → Option Param
named s n [] = none
named s n (p ∷ ps) = elim (same (name_of s p) n) [ true ↦ some p | false ↦ named s n ps ]

-- the octet c in front of the first piece
abbrev pub lengthen : ℕ → List (List ℕ) → List (List ℕ)
lengthen c [] = (c ∷ []) ∷ []
lengthen c (w ∷ ws) = (c ∷ w) ∷ ws

-- the octet c in front of pieces: SP begins a new piece, any other octet lengthens the first
abbrev pub split_at : ℕ → List (List ℕ) → List (List ℕ)
split_at c ws = elim (eqb c 32) [ true ↦ [] ∷ ws | false ↦ lengthen c ws ]

-- what stands between SPs, empty pieces too (HTAB and every other octet are part of a piece)
abbrev pub pieces : List ℕ → List (List ℕ)
pieces [] = [] ∷ []
pieces (c ∷ cs) = split_at c (pieces cs)

abbrev pub non_empty : List (List ℕ) → List (List ℕ)
non_empty [] = []
non_empty ([] ∷ ws) = non_empty ws
non_empty ((c ∷ w) ∷ ws) = (c ∷ w) ∷ non_empty ws

-- the longest runs of octets other than SP
unfoldable pub runs : List ℕ → List (List ℕ)
runs v = non_empty (pieces v)

abbrev pub runs_of : List ℕ → Option Param → List (List ℕ)
runs_of s none = []
runs_of s (some p) = runs (value_of s p)

-- the relations of a link: the runs in the meaning of its `rel` value
unfoldable pub relations : List ℕ → Link → List (List ℕ)
relations s l = runs_of s (named s (octets "rel") l.params)

-- one of the texts compares equal to q, as names do
abbrev pub any_folded : List ℕ → List (List ℕ) → Bool
any_folded q [] = false
any_folded q (w ∷ ws) = same_folded w q || any_folded q ws

-- the link has the relation q
unfoldable pub has_relation : List ℕ → List ℕ → Link → Bool
has_relation s q l = any_folded q (relations s l)
