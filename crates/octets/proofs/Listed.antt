-- The octets that the definitions of the sets list one by one.
use Prim.Native.Nat.{ℕ}
use mathlib.Core.List.{List, [], ◌∷◌}
use Rattle.octets.specs.Text.{octets}

abbrev pub token_marks : List ℕ
token_marks = octets "!#$%&'*+-.^_`|~"

abbrev pub target_marks : List ℕ
target_marks = octets "-._~:/?#[]@!$&'()*+,;="

abbrev pub plain_marks : List ℕ
plain_marks = 9 ∷ 32 ∷ 33 ∷ []
