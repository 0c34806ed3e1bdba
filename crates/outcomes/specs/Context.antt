-- A link's context: its `anchor` value span as written, else the whole base. The numbers: 10, 1, 5, 8.
use Rattle.std.specs.Prelude.{ℕ, ◌≤◌, ◌<◌, ◌≡◌, List, length}
use Rattle.std.proofs.Math.Option.{Option, none, some}
use Rattle.std.proofs.Math.Seq.{slice}
use Rattle.octets.specs.Text.{octets}
use Rattle.grammar.specs.Link.{Param}
use Rattle.tables.specs.Table.{Table}
use Rattle.outcomes.specs.Number.{done, no_such_link_number}
use Rattle.outcomes.specs.Usable.{OverTable}
use Rattle.outcomes.specs.Kept.{kept}

-- where the part handed back lies
pub data Source : Type 0 where
  of_text of_base : Source

pub record ContextOut : Type 0 where
  pub number : ℕ
  pub source : Source
  pub start : ℕ
  pub end : ℕ

-- refused, what is handed back is empty, at the base's beginning
abbrev pub nothing : ℕ → ContextOut
nothing n = record { number = n; source = of_base; start = 0; end = 0 }

-- the octets handed back, from the text or from the base
abbrev pub context_octets : List ℕ → List ℕ → ContextOut → List ℕ
context_octets text base o = elim o.source [ of_text ↦ slice o.start o.end text | of_base ↦ slice o.start o.end base ]

-- the `anchor` parameter of link number i, if it has one
abbrev pub anchor : Table → ℕ → Option Param
anchor t i = kept t i (octets "anchor")

-- the table t, if it may be used, the caller's base and link number i
module _ (t : Table) (base : List ℕ) (i : ℕ) where
  pub data ContextOf : ContextOut → Type 0 where
    no_such_link : t.link_count ≤ i → ContextOf (nothing no_such_link_number)
    anchored : {p : Param} → i < t.link_count → anchor t i ≡ some p
        → ContextOf (record { number = done; source = of_text; start = p.value_from; end = p.value_to })
    unanchored : i < t.link_count → anchor t i ≡ none
        → ContextOf (record { number = done; source = of_base; start = 0; end = length base })

-- asked with the number n of an edition
abbrev pub Context : ℕ → Table → List ℕ → ℕ → ContextOut → Type 0
Context n t base i = OverTable n t nothing (ContextOf t base i)
