-- What is said of one header that was read by hand, and when that holds in an edition.
use Rattle.std.specs.Prelude.{ℕ, ◌/◌, ◌≤◌, List, [], ◌∷◌, ◌++◌, length, drop}
use Rattle.octets.specs.Editions.{number_of}
use Rattle.octets.specs.declared.editions.Edition.{Edition}
use Rattle.grammar.specs.Records.{link_width, param_width, link_room_of, param_room_of}
use Rattle.tables.specs.Table.{Table}
use Rattle.tables.specs.Good.{Each}
use Rattle.outcomes.specs.Number.{done, malformed_header_number}
use Rattle.outcomes.specs.Read.{Read, refused}
use Rattle.outcomes.specs.Search.{Search}
use Rattle.outcomes.specs.Copy.{untouched, holding}
use Rattle.outcomes.specs.Write.{Write}

-- what the writer does with the table that is read: it writes these octets, or answers this number
pub data Writing : Type 0 where
  writes : List ℕ → Writing
  answers : ℕ → Writing

-- The header is read, to these link records and parameter records; its first link has these relations; and writing does this.
-- Or it is malformed, at this place.
pub data Judgement : Type 0 where
  reads : List ℕ → List ℕ → List (List ℕ) → Writing → Judgement
  malformed : ℕ → Judgement

pub record Row : Type 0 where
  pub header : List ℕ
  pub judgement : Judgement

-- the table that holds these records and no more
abbrev pub recorded_table : List ℕ → List ℕ → List ℕ → Table
recorded_table h ls ps =
    record { text = h; link_slots = ls; param_slots = ps; link_count = length ls / link_width; param_count = length ps / param_width }

module _ (e : Edition) where
  abbrev pub Writes : Table → Writing → Type 0
  Writes t (writes f) = (out : List ℕ) → length f ≤ length out → Write (number_of e) t out (holding out f)
  Writes t (answers n) = (out : List ℕ) → Write (number_of e) t out (untouched out n)

  -- in any tables with room reading fills in the records, and leaves the slots behind them as they were
  abbrev pub Fills : List ℕ → List ℕ → List ℕ → Type 0
  Fills h ls ps =
      (L P : List ℕ) → length ls / link_width ≤ link_room_of L → length ps / param_width ≤ param_room_of P
      → Read (number_of e) h L P
      (record {
        number = done;
        place = 0;
        links = length ls / link_width;
        params = length ps / param_width;
        link_slots = ls ++ drop (length ls) L;
        param_slots = ps ++ drop (length ps) P;
      })

  pub record ReadHolds (h ls ps : List ℕ) (qs : List (List ℕ)) (w : Writing) : Type 0 where
    pub fills : Fills h ls ps
    pub has : Each (λ (q : List ℕ). Search (number_of e) (recorded_table h ls ps) q (record { number = done; link = 0 })) qs
    pub writing : Writes (recorded_table h ls ps) w

  abbrev pub Judged : List ℕ → Judgement → Type 0
  Judged h (reads ls ps qs w) = ReadHolds h ls ps qs w
  Judged h (malformed k) = (L P : List ℕ) → Read (number_of e) h L P (refused L P malformed_header_number k)

  abbrev pub RowHolds : Row → Type 0
  RowHolds r = Judged r.header r.judgement
