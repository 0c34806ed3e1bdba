-- Writing a table in its written form. The numbers come in the order 10, 1 (text), 5, 6, 1 (form), 7.
use Rattle.std.specs.Prelude.{ℕ, ◌≤◌, ◌<◌, ◌≡◌, List, [], length}
use Rattle.tables.specs.Table.{Table, link_at}
use Rattle.tables.specs.Meaning.{table_meanings}
use Rattle.tables.specs.Relation.{relations}
use Rattle.tables.specs.Written.{written}
use Rattle.outcomes.specs.Number.{limit, too_long_number, no_relation_number, no_output_room_number}
use Rattle.outcomes.specs.Usable.{OverTable}
use Rattle.outcomes.specs.Copy.{CopyOut, untouched, holding}

-- the written form of a table
abbrev pub written_form : Table → List ℕ
written_form t = written (table_meanings t)

-- the relations of link number i
abbrev pub relations_at : Table → ℕ → List (List ℕ)
relations_at t i = relations t.text (link_at t.link_slots t.param_slots i)

-- every link has a relation
abbrev pub Related : Table → Type 0
Related t = (i : ℕ) → i < t.link_count → relations_at t i ≡ [] → ⊥

-- the table t, if it may be used, and a buffer that holds `out`
module _ (t : Table) (out : List ℕ) where
  pub data Wrote : CopyOut → Type 0 where
    no_relation : {i : ℕ} → i < t.link_count → relations_at t i ≡ [] → Wrote (untouched out no_relation_number)
    long_form : Related t → limit < length (written_form t) → Wrote (untouched out too_long_number)
    no_room : Related t → length (written_form t) ≤ limit → length out < length (written_form t)
        → Wrote (untouched out no_output_room_number)
    wrote : Related t → length (written_form t) ≤ limit → length (written_form t) ≤ length out
        → Wrote (holding out (written_form t))

-- asked with the number n of an edition
abbrev pub Write : ℕ → Table → List ℕ → CopyOut → Type 0
Write n t out = OverTable n t (untouched out) (Wrote t out)
