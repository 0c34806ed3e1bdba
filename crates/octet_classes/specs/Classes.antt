-- A table of class numbers, one for each octet.
use Rattle.std.specs.Prelude.{ℕ, ◌/◌, ◌%◌, ◌<◌, ◌≡◌, Bool, ◌||◌, List, eqb, get_or}
use Rattle.octet_classes.specs.Sets.{is_in}
use Rattle.octet_classes.specs.declared.Set.{Set}
use Rattle.octet_classes.specs.declared.Set.TheVariants.{Token, Plain, Escapable, Target, Hex, Older, Blank, Ptoken}

-- the bit that is worth w is set in a class number
abbrev pub bit : ℕ → ℕ → Bool
bit w x = eqb (x / w % 2) 1

-- a class number says that its octet is in the set: by the set's bit, and of a ptoken by those of the two sets that it is made of
abbrev pub says : Set → ℕ → Bool
says Token = λ x. eqb (x % 2) 1
says Plain = bit 2
says Escapable = bit 4
says Target = bit 8
says Hex = bit 16
says Older = bit 32
says Blank = bit 64
says Ptoken = λ x. eqb (x % 2) 1 || bit 32 x

-- each octet's entry says of each set whether the octet is in it
pub record Classes (t : List ℕ) : Type 0 where
  pub right : (set : Set) (c : ℕ) → c < 256 → says set (get_or t c 0) ≡ is_in set c
