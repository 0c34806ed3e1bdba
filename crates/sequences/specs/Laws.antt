-- What is proved of judging UTF-8 one octet at a time.
use Rattle.std.specs.Prelude.{ℕ, ◌≡◌, true, List, ◌∷◌, length}
use Rattle.rules.specs.Rule.{Derives}
use Rattle.utf8.specs.Sequences.{in_range, utf8_char, WellFormed}
use Rattle.sequences.specs.Ones.{leading_ones, length_by}
use Rattle.sequences.specs.Awaited.{nothing, complete}

-- A text is well formed just if nothing is awaited behind it.
pub record AwaitedExact : Type 0 where
  pub sound : (w : List ℕ) → complete nothing w ≡ true → WellFormed w
  pub all : (w : List ℕ) → WellFormed w → complete nothing w ≡ true

-- The ones that a sequence's first octet begins with tell how many octets it has.
pub record OnesTell : Type 0 where
  pub octets : (c : ℕ) (w : List ℕ) → Derives in_range utf8_char (c ∷ w) → length (c ∷ w) ≡ length_by (leading_ones c)
