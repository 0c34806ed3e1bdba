-- What a base is told to be before any link is resolved on it.
use Rattle.std.specs.Prelude.{ℕ, ◌≤◌, ◌<◌, List, length, Result, Ok, Err, ⊤}
use Rattle.references.specs.AppendixA.{IsURI}
use Rattle.outcomes.specs.Number.{limit}
use Rattle.answers.specs.declared.Refusal.{Refusal}
use Rattle.answers.specs.declared.Refusal.TheVariants.{TooLong, BadBase}

pub data TellsBase (base : List ℕ) : Result ⊤ Refusal → Type 0 where
  too_long : limit < length base → TellsBase base (Err TooLong)
  no_uri : length base ≤ limit → (IsURI base → ⊥) → TellsBase base (Err BadBase)
  right : length base ≤ limit → IsURI base → TellsBase base (Ok tt)
