-- A walk that is told by a line.
use Rattle.std.specs.Prelude.{ℕ, List, ℤ}
use Rattle.kinds.specs.Put.{Put}
use Rattle.catalogues.specs.Packs.{Room}
use Rattle.catalogues.specs.Outcome.{WalkOut, Walk}
use Rattle.walk_lines.specs.Line.{Tells}

-- the outcome's line is put at the start of a buffer that held `old` and holds `new`, up to place `to`
pub record WalkTold (text : List ℕ) (room : Room) (start : ℕ) (n : ℤ) (old new : List ℕ) (to : ℕ) : Type 0 where
  pub outcome : WalkOut
  pub walk : Walk text room start n outcome
  pub line : List ℕ
  pub tells : Tells text room outcome line
  pub put : Put old new 0 to line
