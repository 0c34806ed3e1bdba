-- The sets of octets that RFC 3986's grammar names, or has as a literal or a range.
use Rattle.std.specs.Prelude.{ℕ, Bool, ◌||◌, eqb}
use Rattle.octets.specs.Text.{octets}
use Rattle.octets.specs.Sets.{between, one_of}

pub data Octets : Type 0 where
  ALPHA DIGIT HEXDIG unreserved sub_delims : Octets
  -- `:` `/` `?` `#` `[` `]` `@` `%` `.` `+` `-`
  colon slash question hash bracket end_bracket at percent dot plus hyphen : Octets
  -- `v`; ABNF's literals stand for either case of a letter, so this set and HEXDIG have both
  vee : Octets
  -- `1` to `9`, `0` to `4`, `0` to `5`, `1`, `2`, `5`
  from_1_to_9 from_0_to_4 from_0_to_5 digit_1 digit_2 digit_5 : Octets

abbrev pub letter : ℕ → Bool
letter c = between 65 90 c || between 97 122 c

abbrev pub digit : ℕ → Bool
digit c = between 48 57 c

-- c is in the set
abbrev pub has : Octets → ℕ → Bool
has ALPHA c = letter c
has DIGIT c = digit c
has HEXDIG c = digit c || between 65 70 c || between 97 102 c
has unreserved c = letter c || digit c || one_of (octets "-._~") c
has sub_delims c = one_of (octets "!$&'()*+,;=") c
has colon c = eqb c 58
has slash c = eqb c 47
has question c = eqb c 63
has hash c = eqb c 35
has bracket c = eqb c 91
has end_bracket c = eqb c 93
has at c = eqb c 64
has percent c = eqb c 37
has dot c = eqb c 46
has plus c = eqb c 43
has hyphen c = eqb c 45
has vee c = one_of (octets "vV") c
has from_1_to_9 c = between 49 57 c
has from_0_to_4 c = between 48 52 c
has from_0_to_5 c = between 48 53 c
has digit_1 c = eqb c 49
has digit_2 c = eqb c 50
has digit_5 c = eqb c 53
