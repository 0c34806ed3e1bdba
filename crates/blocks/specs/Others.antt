-- The octets other than one.
use Rattle.std.specs.Prelude.{ℕ, Bool, not, eqb}

abbrev pub other_than : ℕ → ℕ → Bool
other_than c d = not (eqb d c)
