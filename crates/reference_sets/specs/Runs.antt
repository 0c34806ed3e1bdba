-- The sets of octets that runs are made of, each of which keeps a state of the machine.
use Rattle.std.specs.Prelude.{ℕ, Bool, ◌||◌}
use Rattle.references.specs.Octets.{has, DIGIT, at}
use Rattle.reference_steps.specs.Machine.{plain, in_scheme}
use Rattle.reference_sets.specs.Sets.{of, is_path}
use Rattle.reference_sets.specs.declared.sets.Run.{Run}
use Rattle.reference_sets.specs.declared.sets.Run.TheVariants.{Path, Host, Port, Scheme, Segment}

abbrev pub in_run : Run → ℕ → Bool
in_run Path = is_path
in_run Host = λ c. plain (of c)
in_run Port = has DIGIT
in_run Scheme = λ c. in_scheme (of c)
in_run Segment = λ c. plain (of c) || has at c
