-- The lines that a listing is made of. A record is its numbers in order.
use Rattle.std.specs.Prelude.{ℕ, List, [], ◌∷◌}
use Rattle.octets.specs.Text.{octets}
use Rattle.columns.specs.Line.{line}

-- how many links there are, and how many parameters
abbrev pub counts_line : ℕ → ℕ → List ℕ
counts_line links params = line (octets "links") (links ∷ params ∷ [])

-- a link's number and its record
abbrev pub link_line : ℕ → List ℕ → List ℕ
link_line number fields = line (octets "link") (number ∷ fields)

-- a parameter's number and its record
abbrev pub param_line : ℕ → List ℕ → List ℕ
param_line number fields = line (octets "param") (number ∷ fields)

-- why a header is refused, and where
abbrev pub refusal_line : ℕ → ℕ → List ℕ
refusal_line number place = line (octets "refused") (number ∷ place ∷ [])
