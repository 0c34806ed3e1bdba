-- Where the grammar's machine stands after part of a header, in an edition whose further octets keep apart.
use Rattle.std.specs.Prelude.{ℕ, ◌≤◌, ◌<◌, ◌≡◌, false, List, [], length, take, get_or}
use Rattle.std.proofs.Math.Option.{some}
use Rattle.octets.specs.Sets.{is_blank}
use Rattle.grammar.specs.Grammar.{Extra, Admissible}
use Rattle.grammar.specs.Machine.{State, gap, run, step, settle, Open, next, close}

-- after the first i octets of s it is in this state
pub record Stands (extra : Extra) (s : List ℕ) (st : State) (i : ℕ) : Type 0 where
  pub apart : Admissible extra
  pub inside : i ≤ length s
  pub is : run extra (gap []) 0 (take i s) ≡ st

-- at place i the open link is whole, and goes on as after a parameter
pub record Ready (extra : Extra) (s : List ℕ) (o : Open) (i : ℕ) : Type 0 where
  pub state : State
  pub stands : Stands extra s state i
  pub settles : settle state i ≡ some (close o)
  pub steps : i < length s → step extra state i (get_or s i 0) ≡ next o (get_or s i 0)

-- at place i of the text no SP and no HTAB stands
pub record Clear (s : List ℕ) (i : ℕ) : Type 0 where
  pub inside : i ≤ length s
  pub clear : i < length s → is_blank (get_or s i 0) ≡ false
