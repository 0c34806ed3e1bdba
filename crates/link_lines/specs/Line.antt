-- The line of a link.
use Rattle.std.specs.Prelude.{ℕ, ◌≤◌, List, length, take, Result, Ok, Err}
use Rattle.tables.specs.Table.{Table}
use Rattle.kinds.specs.Put.{Put}
use Rattle.answers.specs.Refusal.{refusal_number}
use Rattle.answers.specs.declared.Refusal.{Refusal}
use Rattle.lines.specs.Line.{refusal_line}
use Rattle.resolved_lines.specs.ResolvedLine.{resolved_line}
use Rattle.link_lines.specs.Link.{LinkOn}

-- of an answer for link number i, with what both buffers hold
abbrev pub answer_line : ℕ → Result (ℕ × ℕ) Refusal → List ℕ → List ℕ → List ℕ
answer_line i (Ok (n, m)) T C = resolved_line i (take n T) (take m C)
answer_line i (Err why) T C = refusal_line (refusal_number why) 0

-- the buffers hold as many octets as the answer tells
abbrev pub Holds : Result (ℕ × ℕ) Refusal → List ℕ → List ℕ → Type 0
Holds (Ok (n, m)) T C = (n ≤ length T) × (m ≤ length C)
Holds (Err why) T C = Unit

-- In the edition numbered n, link number i of the table t is resolved on a base, by way of buffers that held T and C and hold T' and C',
-- and its line is put at the start of a buffer that held `old` and holds `new`, up to place `to`.
pub record LineOn (n : ℕ) (t : Table) (base : List ℕ) (i : ℕ) (T C T' C' old new : List ℕ) (to : ℕ) : Type 0 where
  pub answer : Result (ℕ × ℕ) Refusal
  pub resolved : LinkOn n t base i T C answer T' C'
  pub line : Put old new 0 to (answer_line i answer T' C')
