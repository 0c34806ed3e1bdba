-- How an octet of a part is put.
use Rattle.std.specs.Prelude.{ℕ, Bool, true, false}
use Rattle.octets.specs.Fold.{fold}

-- folded or as it stands
abbrev pub spelt : Bool → ℕ → ℕ
spelt true c = fold c
spelt false c = c
