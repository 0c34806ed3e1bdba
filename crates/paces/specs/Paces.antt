-- A signed number of steps as a way and a count.
use Rattle.std.specs.Prelude.{ℕ, ◌≤◌, ◌<◌, ◌≡◌, List, ℤ, nat_abs, Option, Some, None}
use Rattle.octets.specs.Text.{octets}
use Rattle.catalogues.specs.Walks.{relation_of}
use Rattle.catalogues.specs.Outcome.{step_limit}
use Rattle.paces.specs.declared.Way.{Way}
use Rattle.paces.specs.declared.Way.TheVariants.{Next, Prev}
use Rattle.paces.specs.declared.Paces.{Paces}

-- the relation that is followed that way
abbrev pub relation_on : Way → List ℕ
relation_on Next = octets "next"
relation_on Prev = octets "prev"

-- more steps than there may be, or so many one way
pub data IsPaces (n : ℤ) : Option Paces → Type 0 where
  far : step_limit < nat_abs n → IsPaces n None
  go : {w : Way} {k : ℕ} → nat_abs n ≤ step_limit → relation_of n ≡ relation_on w → nat_abs n ≡ k
      → IsPaces n (Some (record { way = w; steps = k }))
