-- What listing a table asks of it.
use Rattle.std.specs.Prelude.{ℕ, ◌≤◌, List}
use Rattle.grammar.specs.Records.{link_room_of, param_room_of}
use Rattle.tables.specs.Good.{Follows}

-- both tables hold as many records as counted, and the links' parameters follow one another up to the last
pub record Held (L P : List ℕ) (n m : ℕ) : Type 0 where
  pub link_room : n ≤ link_room_of L
  pub param_room : m ≤ param_room_of P
  pub follows : Follows L 0 n 0 m
