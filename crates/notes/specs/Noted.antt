-- Numbers of records noted one behind another, in 16 bits each, as far as there is room.
use Rattle.std.specs.Prelude.{ℕ, ◌+◌, ◌%◌, ◌≤◌, ◌≡◌, List, map, length}
use Rattle.std.proofs.lemmas.List.Edits.{sets}

-- what 16 bits hold of a number
abbrev pub low : ℕ → ℕ
low n = n % 65536

-- the numbers ns were noted over `old` from slot `at` on; where there is no room for all of them, nothing is said of the slots
pub record Noted (old new : List ℕ) (at : ℕ) (ns : List ℕ) : Type 0 where
  pub lengths : length new ≡ length old
  pub holds : at + length ns ≤ length old → new ≡ sets old at (map low ns)
