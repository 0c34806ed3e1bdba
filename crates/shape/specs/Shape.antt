-- How a value is written.
use Rattle.std.specs.Prelude.{ℕ, ◌+◌, Bool, cond, ◌&&◌, ◌||◌, List, [], ◌∷◌, ◌++◌, ltb, eqb}
use Rattle.tables.specs.Written.{escape}

-- a value in quotes
abbrev pub in_quotes : List ℕ → List ℕ
in_quotes v = 34 ∷ escape v ++ 34 ∷ []

-- how many octets an octet takes in quotes
abbrev pub escaped_len : ℕ → ℕ
escaped_len c = cond (eqb c 34 || eqb c 92) 2 1

-- how many octets a value takes that has n when it is escaped, and whose octets are all token octets or not
abbrev pub len_for : ℕ → Bool → ℕ
len_for n tokens = cond (ltb 0 n && tokens) n (n + 2)
