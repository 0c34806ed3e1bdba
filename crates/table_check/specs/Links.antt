-- What is asked of the links of a table, target by target, and of their parameters.
use Rattle.std.specs.Prelude.{ℕ, ◌+◌, ◌*◌, ◌≤◌, ◌<◌, List, [], get_or}
use Rattle.grammar.specs.Grammar.{Extra, Target}
use Rattle.grammar.specs.Records.{link_width, link_room_of, param_room_of}
use Rattle.grammar.specs.Targets.{ReferenceAt}
use Rattle.tables.specs.Table.{first_of, count_of}
use Rattle.tables.specs.Good.{InText, Follows}
use Rattle.param_check.specs.Params.{GoodParams}

-- the span lies in the text, is a target and a reference
pub record GoodTarget (s : List ℕ) (a e : ℕ) : Type 0 where
  pub span : InText s a e
  pub target : Target s a e
  pub reference : ReferenceAt s a e

-- of n links each one's parameters begin where the former's end, the last one's end at m, and each target is good
pub record Linked (s L : List ℕ) (n m : ℕ) : Type 0 where
  pub follows : Follows L 0 n 0 m
  pub targets : (i : ℕ) → i < n → GoodTarget s (get_or L (link_width * i) 0) (get_or L (link_width * i + 1) 0)

-- n links and their m parameters lie in the slots
pub record Fits (L P : List ℕ) (n m : ℕ) : Type 0 where
  pub link_room : n ≤ link_room_of L
  pub param_room : m ≤ param_room_of P
  pub follows : Follows L 0 n 0 m

-- the parameters of each of n links are good
abbrev pub EachParams : Extra → List ℕ → List ℕ → List ℕ → ℕ → Type 0
EachParams extra s L P n = (i : ℕ) → i < n → GoodParams extra s P [] (first_of L i) (count_of L i)
