-- A link's title: what its kept `title*` gives, if that is right, else what its kept `title` means. The numbers come in the order 10, 1,
-- 5, 8, 9, 7.
use Rattle.std.specs.Prelude.{ℕ, ◌≤◌, ◌<◌, ◌≡◌, List, length}
use Rattle.std.proofs.Math.Option.{none, some}
use Rattle.octets.specs.Text.{octets}
use Rattle.extended.specs.Value.{Extended}
use Rattle.grammar.specs.Link.{Param}
use Rattle.tables.specs.Table.{Table}
use Rattle.tables.specs.Meaning.{value_of}
use Rattle.outcomes.specs.Number.{no_output_room_number, no_such_link_number, not_found_number}
use Rattle.outcomes.specs.Usable.{OverTable}
use Rattle.outcomes.specs.Kept.{kept}
use Rattle.outcomes.specs.Copy.{CopyOut, untouched, holding}

-- link number i of the table t
module _ (t : Table) (i : ℕ) where
  -- its `title*` is right, and gives v: the value's backslashes come out first
  pub record Decoded (v : List ℕ) : Type 0 where
    pub param : Param
    pub is_kept : kept t i (octets "title*") ≡ some param
    pub right : Extended (value_of t.text param) v

  -- it has no `title*`, or a wrong one
  abbrev pub Undecoded : Type 0
  Undecoded = (v : List ℕ) → Decoded v → ⊥

  -- v is its title
  pub data Title (v : List ℕ) : Type 0 where
    decoded : Decoded v → Title v
    -- `title` isn't judged
    plain : {p : Param} → Undecoded → kept t i (octets "title") ≡ some p → v ≡ value_of t.text p → Title v

  -- it has none
  pub record Untitled : Type 0 where
    pub undecoded : Undecoded
    pub no_title : kept t i (octets "title") ≡ none

-- the table t, if it may be used, link number i, and a buffer that holds `out`
module _ (t : Table) (i : ℕ) (out : List ℕ) where
  pub data Titled : CopyOut → Type 0 where
    no_such_link : t.link_count ≤ i → Titled (untouched out no_such_link_number)
    untitled : i < t.link_count → Untitled t i → Titled (untouched out not_found_number)
    -- a right `title*` that doesn't fit is refused, whatever `title` is
    no_room : {v : List ℕ} → i < t.link_count → Title t i v → length out < length v → Titled (untouched out no_output_room_number)
    titled : {v : List ℕ} → i < t.link_count → Title t i v → length v ≤ length out → Titled (holding out v)

-- asked with the number n of an edition
abbrev pub Titles : ℕ → Table → ℕ → List ℕ → CopyOut → Type 0
Titles n t i out = OverTable n t (untouched out) (Titled t i out)
