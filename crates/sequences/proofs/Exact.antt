-- A text is well formed just if nothing is awaited behind it. Assumes nothing.
use Prim.Native.Nat.{ℕ}
use mathlib.Core.Path.{◌≡◌}
use mathlib.Core.Bool.{true}
use mathlib.Core.List.{List}
use Rattle.utf8.specs.Sequences.{WellFormed}
use Rattle.sequences.specs.Awaited.{nothing, complete}
use Rattle.sequences.specs.Laws.{AwaitedExact}
use Rattle.sequences.proofs.Passed.{well_formed_complete}
use Rattle.sequences.proofs.Formed.{complete_well_formed}

pub sound : (w : List ℕ) → complete nothing w ≡ true → WellFormed w
sound = complete_well_formed

pub all : (w : List ℕ) → WellFormed w → complete nothing w ≡ true
all w d = well_formed_complete d

pub awaited_exact : AwaitedExact
awaited_exact = record { sound = sound; all = all }
