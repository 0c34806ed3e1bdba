-- What is awaited, as a rule of the grammar. Assumes nothing.
use Prim.Native.Nat.{ℕ, zero, suc}
use mathlib.Core.List.{List}
use Rattle.rules.specs.Rule.{Rule, nothing as nothing-more, ◌then◌, Derives}
use Rattle.utf8.specs.Sequences.{Range, in_range, range}
use Rattle.sequences.specs.declared.Awaited.{Awaited}

-- n octets, the first from a to b
abbrev pub awaited : ℕ → ℕ → ℕ → Rule Range
awaited zero a b = nothing-more
awaited (suc zero) a b = range a b
awaited (suc (suc n)) a b = range a b then awaited (suc n) 0x80 0xBF

abbrev pub Awaits : Awaited → List ℕ → Type 0
Awaits t w = Derives in_range (awaited t.count t.low t.high) w
