-- Octets that blocks are tested for: not all of a set, so that a test is short, but most of what stands in references.
use Rattle.std.specs.Prelude.{ℕ, Bool, ◌||◌, eqb}
use Rattle.octets.specs.Sets.{between}
use Rattle.references.specs.Octets.{letter}

-- of a path or a query: all but `!` and `$`
abbrev pub is_common : ℕ → Bool
is_common c = letter c || between 38 59 c || (eqb c 61 || eqb c 63 || eqb c 95 || eqb c 64 || eqb c 126)

-- of a host, or of a path or a query behind it
abbrev pub is_hosted : ℕ → Bool
is_hosted c = letter c || between 38 57 c || eqb c 61 || eqb c 63 || eqb c 95
