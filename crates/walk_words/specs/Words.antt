-- The numbers that words ask for: a start and steps.
use Rattle.std.specs.Prelude.{ℕ, ◌-◌, ◌^◌, min, Bool, cond, ◌&&◌, List, [], ◌∷◌, eqb, ltb, leb, length, ℤ, pos, neg_ℤ}
use Rattle.octets.specs.Sets.{all, is_digit}
use Rattle.columns.specs.Decimal.{read_from}

-- one to k decimal digits
abbrev pub is_numeral : ℕ → List ℕ → Bool
is_numeral k w = ltb 0 (length w) && leb (length w) k && all is_digit w

-- the number of such a word, but no more than m; any other word asks for m
abbrev pub number_up_to : ℕ → ℕ → List ℕ → ℕ
number_up_to k m w = cond (is_numeral k w) (min (read_from 0 w) m) m

-- a start that no catalogue has: the largest number of 64 bits
abbrev pub no_start_number : ℕ
no_start_number = 2 ^ 64 - 1

abbrev pub start_of : List ℕ → ℕ
start_of = number_up_to 20 no_start_number

-- more steps than a walk may have
abbrev pub many_steps : ℕ
many_steps = 65

-- a minus in front, if there, and then the number
abbrev pub steps_of : List ℕ → ℤ
steps_of [] = pos many_steps
steps_of (c ∷ w) = cond (eqb c 45) (neg_ℤ (pos (number_up_to 10 many_steps w))) (pos (number_up_to 10 many_steps (c ∷ w)))
