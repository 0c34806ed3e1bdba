-- Whether every link of a table has a relation.
use Rattle.std.specs.Prelude.{ℕ, ◌<◌, ◌≡◌, Bool, true, false, []}
use Rattle.tables.specs.Table.{Table}
use Rattle.outcomes.specs.Write.{relations_at, Related}

-- some link has no relation
abbrev pub Unrelated : Table → Type 0
Unrelated t = (i : ℕ) × (i < t.link_count) × (relations_at t i ≡ [])

-- b is true where every link has one, and false where some link has none
pub record TellsRelated (t : Table) (b : Bool) : Type 0 where
  pub related : b ≡ true → Related t
  pub unrelated : b ≡ false → Unrelated t
