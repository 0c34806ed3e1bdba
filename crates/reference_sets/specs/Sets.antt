-- An octet by the sets of the grammar that it is in, as the machine asks for it.
use Rattle.std.specs.Prelude.{ℕ, Bool, ◌||◌}
use Rattle.references.specs.Octets.{Octets, has, slash, question}
use Rattle.reference_steps.specs.Machine.{in_segment}

abbrev pub of : ℕ → Octets → Bool
of c f = has f c

-- an octet of a path or a query, and so of a fragment
abbrev pub is_path : ℕ → Bool
is_path c = in_segment (of c) || has slash c || has question c
