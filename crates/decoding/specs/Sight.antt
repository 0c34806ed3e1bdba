-- What is left of an extended value behind some front of it.
use Rattle.std.specs.Prelude.{ℕ, List, Some, None}
use Rattle.std.specs.Prelude as rust
use Rattle.std.proofs.Math.Option.{Option, none, some}
use Rattle.kinds.specs.declared.Place.{Place}
use Rattle.units.specs.declared.Reading.{Reading}
use Rattle.units.specs.Seen.{seen}

-- what is read from the place on that an answer tells, if it tells one
abbrev pub sight : Reading → List ℕ → ℕ → rust.Option Place → Option (List ℕ)
sight h s e (Some p) = some (seen h s e p.0)
sight h s e None = none
