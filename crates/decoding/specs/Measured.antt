-- How many octets are given, if they are well-formed UTF-8.
use Rattle.std.specs.Prelude.{ℕ, ◌+◌, ◌≡◌, cond, List, [], length, Some, None}
use Rattle.std.specs.Prelude as rust
use Rattle.std.proofs.Math.Option.{Option, none, some}
use Rattle.sequences.specs.Awaited.{complete}
use Rattle.sequences.specs.declared.Awaited.{Awaited}

-- where n octets are counted, t is awaited, and o is still to be given
abbrev pub measured : ℕ → Awaited → Option (List ℕ) → Option ℕ
measured n t none = none
measured n t (some v) = cond (complete t v) (some (n + length v)) none

-- what an answer tells
abbrev pub told : rust.Option ℕ → Option ℕ
told (Some n) = some n
told None = none

-- the octets given, or none
abbrev pub octets_given : Option (List ℕ) → List ℕ
octets_given none = []
octets_given (some v) = v

-- octets are given
abbrev pub IsGiven : Option (List ℕ) → Type 0
IsGiven o = o ≡ some (octets_given o)
