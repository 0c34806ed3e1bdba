-- The line of a link's answer. Assumes nothing.
use Prim.Native.Nat.{ℕ, ◌+◌, ◌≤◌}
use native.Mathlib.Omega.{arith}
use mathlib.Core.Path.{◌≡◌, ap, subst}
use mathlib.Core.List.{List}
use lib.ListN.{length, take, drop, length-append}
use lib.Seq.{length-take-le, length-sets}
use Rattle.std.specs.Prelude.{Result, Ok}
use Rattle.kinds.specs.Put.{Put}
use Rattle.tables.specs.Table.{Table}
use Rattle.answers.specs.declared.Refusal.{Refusal}
use Rattle.link_lines.specs.Link.{LinkOn, target_refused, context_refused, both}
use Rattle.link_lines.specs.Line.{Holds}

-- the answer tells how many octets both buffers hold
module _ (T C : List ℕ) {a : Result (ℕ × ℕ) Refusal} {n m : ℕ} (h : Holds a T C) (e : a ≡ Ok (n, m)) where
  held : (n ≤ length T) × (m ≤ length C)
  held = subst (λ (x : Result (ℕ × ℕ) Refusal). Holds x T C) e h

  pub first_cut : n ≡ length (take n T)
  first_cut = omega (arith, length-take-le n T held.0)

  pub second_cut : m ≡ length (take m C)
  second_cut = omega (arith, length-take-le m C held.1)

  pub line_room : {k : ℕ} → length T + length C + 160 ≤ k → length (take n T) + length (take m C) + 23 ≤ k
  line_room room = omega (arith, room, held.0, held.1, first_cut, second_cut)

-- what is put within a buffer ends within it
pub put_inside : {old new bs : List ℕ} {at to : ℕ} → Put old new at to bs → at + length bs ≤ length old → to ≤ length new
put_inside {old} {new} {bs} {at} p h = omega (arith, h, p.place, ap length p.buffer, length-sets old at bs)

-- a link that is resolved has its octets in both buffers
pub resolved_held : {n : ℕ} {t : Table} {base : List ℕ} {i : ℕ} {T C : List ℕ} {a : Result (ℕ × ℕ) Refusal} {T' C' : List ℕ}
    → LinkOn n t base i T C a T' C' → Holds a T' C'
resolved_held (target_refused x) = tt
resolved_held (context_refused v x y) = tt
resolved_held {T = T} {C} (both v w x y) = (
  omega (arith, length-append v (drop (length v) T)),
  omega (arith, length-append w (drop (length w) C)),
)
