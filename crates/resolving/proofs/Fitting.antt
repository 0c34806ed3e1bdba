-- A result that was written, or isn't. Assumes nothing.
use Prim.Native.Nat.{ℕ, ◌≤◌, ◌<◌}
use native.Mathlib.Omega.{arith}
use mathlib.Core.Path.{◌≡◌, sym, ap, subst, ◌∙◌}
use mathlib.Core.List.{List, ◌++◌}
use lib.ListN.{length, drop}
use Rattle.kinds.specs.Put.{Put}
use Rattle.kinds.proofs.Stores.{sets_front}
use Rattle.outcomes.specs.Number.{limit, too_long_number, no_output_room_number, done}
use Rattle.outcomes.specs.Copy.{untouched}
use Rattle.outcomes.specs.Resolve.{Fitted, too_long, no_room, fits}

-- v are the octets that were laid out, n of them
module _ (old v laid : List ℕ) (n : ℕ) (e : v ≡ laid) (m : n ≡ length laid) where
  measured : n ≡ length v
  measured = m ∙ ap length (sym e)

  pub over : limit < n → Fitted old v (untouched old too_long_number)
  over h = too_long (omega (arith, h, measured))

  pub cramped : n ≤ limit → length old < n → Fitted old v (untouched old no_output_room_number)
  cramped h k = no_room (omega (arith, h, measured)) (omega (arith, k, measured))

  pub written : {new : List ℕ} → n ≤ limit → n ≤ length old → Put old new 0 n laid
      → Fitted old v (record { number = done; count = n; buffer = new })
  written {new} h k p =
      let l : length v ≤ length old = omega (arith, k, measured) in
      let b : new ≡ v ++ drop (length v) old = p.buffer ∙ rw (sym e) (sets_front old v l) in
      subst (λ (c : ℕ). Fitted old v (record { number = done; count = c; buffer = new })) (sym measured)
      (subst (λ (x : List ℕ). Fitted old v (record { number = done; count = length v; buffer = x })) (sym b)
      (fits (omega (arith, h, measured)) l))
