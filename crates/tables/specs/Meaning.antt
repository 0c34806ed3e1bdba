-- Meanings of parameters and links.
use Rattle.std.specs.Prelude.{ℕ, Bool, true, false, cond, List, [], ◌∷◌, map, eqb}
use Rattle.std.proofs.Math.Seq.{slice}
use Rattle.grammar.specs.Link.{Link, Param}
use Rattle.grammar.specs.Kept.{name_of}
use Rattle.tables.specs.Table.{Table, links_of}

-- each `\` with the octet after it read as that octet; `behind` is true right behind such a `\`
abbrev pub unescape_from : Bool → List ℕ → List ℕ
unescape_from behind [] = []
unescape_from true (c ∷ cs) = c ∷ unescape_from false cs
unescape_from false (c ∷ cs) = elim (eqb c 92) [ true ↦ unescape_from true cs | false ↦ c ∷ unescape_from false cs ]

unfoldable pub unescape : List ℕ → List ℕ
unescape v = unescape_from false v

-- the meaning of a parameter's value: with form 2 the backslashes are taken out
unfoldable pub value_of : List ℕ → Param → List ℕ
value_of s p = cond (eqb p.form 2) (unescape (slice p.value_from p.value_to s)) (slice p.value_from p.value_to s)

-- the meaning of a parameter: its folded name and its value's meaning
pub record ParamMeaning : Type 0 where
  pub name : List ℕ
  pub value : List ℕ

abbrev pub param_meaning : List ℕ → Param → ParamMeaning
param_meaning s p = record { name = name_of s p; value = value_of s p }

-- the meaning of a link: its target octets and the meanings of its parameters in order (in a reading those that are kept, in a
-- table those that it records)
pub record LinkMeaning : Type 0 where
  pub target : List ℕ
  pub params : List ParamMeaning

abbrev pub link_meaning : List ℕ → Link → LinkMeaning
link_meaning s l = record { target = slice l.target_from l.target_to s; params = map (param_meaning s) l.params }

abbrev pub meanings : List ℕ → List Link → List LinkMeaning
meanings s ls = map (link_meaning s) ls

-- a table's list of link meanings
abbrev pub table_meanings : Table → List LinkMeaning
table_meanings t = meanings t.text (links_of t)
