-- Which of the names kept once have been seen: the bit of a name's code is set. No other bit ever is.
use Rattle.std.specs.Prelude.{ℕ, ◌/◌, ◌%◌, ◌^◌, ◌≡◌, Bool, true, ◌&&◌, List, eqb, ltb}
use Rattle.std.specs.Int.Bits.{bit_or, bit_and}
use Rattle.grammar.specs.Kept.{among, is_once, code_of}
use Rattle.names.specs.declared.Seen.{Seen}

unfoldable pub none_seen : Seen
none_seen = record { marks = 0 }

-- the name of code k is among those seen
unfoldable pub has_code : Seen → ℕ → Bool
has_code x k = eqb (x.marks / 2 ^ (k % 32) % 2) 1

-- and the name of code k besides, if it is kept once
unfoldable pub with_code : Seen → ℕ → Seen
with_code x k = record { marks = bit_or x.marks (bit_and (2 ^ (k % 32)) 126) }

-- no bit is set but those of the codes 1 to 6
abbrev pub once_bits : ℕ → Bool
once_bits m = ltb m 128 && eqb (m % 2) 0

-- x tells which of the names kept once are among those listed
pub record Remembers (x : Seen) (earlier : List (List ℕ)) : Type 0 where
  pub fits : once_bits x.marks ≡ true
  pub tells : (n : List ℕ) → has_code x (code_of n) ≡ (is_once n && among earlier n)
