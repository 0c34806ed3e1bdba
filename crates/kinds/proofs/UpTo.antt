-- The part up to a text's length is the whole text.
use Prim.Native.Nat.{ℕ}
use mathlib.Core.Path.{◌≡◌}
use mathlib.Core.List.{List}
use lib.ListN.{length}
use lib.Seq.{slice, take-length}
use Rattle.kinds.specs.declared.Span.{Span}

pub all_of : (s : List ℕ) {p : Span} → (p.from.0 ≡ 0) × (p.to.0 ≡ length s) → slice p.from.0 p.to.0 s ≡ s
all_of s e = rw (e.0, e.1) (take-length s)
