-- Value copy: the meaning of one parameter's value. The numbers come in the order 10, 1, 5, 8, 9, 7.
use Rattle.std.specs.Prelude.{ℕ, ◌+◌, ◌≤◌, ◌<◌, List, ◌++◌, length, drop}
use Rattle.tables.specs.Table.{Table, param_at, first_of, count_of}
use Rattle.tables.specs.Meaning.{value_of}
use Rattle.outcomes.specs.Number.{done, no_output_room_number, no_such_link_number, not_found_number}
use Rattle.outcomes.specs.Usable.{OverTable}

-- the number and the count of octets answered, and what the output buffer holds afterwards
pub record CopyOut : Type 0 where
  pub number : ℕ
  pub count : ℕ
  pub buffer : List ℕ

-- refused, the buffer that held `out` is left so
abbrev pub untouched : List ℕ → ℕ → CopyOut
untouched out n = record { number = n; count = 0; buffer = out }

-- the octets v, and behind them what the buffer held
abbrev pub holding : List ℕ → List ℕ → CopyOut
holding out v = record { number = done; count = length v; buffer = v ++ drop (length v) out }

-- the meaning of the value of the parameter at index j within link number i
abbrev pub meant : Table → ℕ → ℕ → List ℕ
meant t i j = value_of t.text (param_at t.param_slots (first_of t.link_slots i + j))

-- the table t, if it may be used, link number i, index j within that link, and a buffer that holds `out`
module _ (t : Table) (i j : ℕ) (out : List ℕ) where
  pub data Copied : CopyOut → Type 0 where
    no_such_link : t.link_count ≤ i → Copied (untouched out no_such_link_number)
    no_such_param : i < t.link_count → count_of t.link_slots i ≤ j → Copied (untouched out not_found_number)
    no_room : i < t.link_count → j < count_of t.link_slots i → length out < length (meant t i j)
        → Copied (untouched out no_output_room_number)
    copied : i < t.link_count → j < count_of t.link_slots i → length (meant t i j) ≤ length out
        → Copied (holding out (meant t i j))

-- asked with the number n of an edition
abbrev pub Copy : ℕ → Table → ℕ → ℕ → List ℕ → CopyOut → Type 0
Copy n t i j out = OverTable n t (untouched out) (Copied t i j out)
