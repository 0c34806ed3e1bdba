-- What is proved of UTF-8.
use Rattle.std.specs.Prelude.{ℕ, ◌≡◌, List}
use Rattle.utf8.specs.Sequences.{WellFormed}
use Rattle.utf8.specs.Numbers.{EncodesAll}

-- A text is well formed just if it encodes a list of numbers, and it encodes no other list.
pub record EncodesNumbers : Type 0 where
  pub numbers : (w : List ℕ) → WellFormed w → (ns : List ℕ) × EncodesAll ns w
  pub well_formed : (ns w : List ℕ) → EncodesAll ns w → WellFormed w
  pub one_list : (ns ms w : List ℕ) → EncodesAll ns w → EncodesAll ms w → ns ≡ ms
