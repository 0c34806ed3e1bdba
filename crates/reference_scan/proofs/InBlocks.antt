-- The first octet of a block that isn't in a set: what a loop through the block has found so far. Assumes nothing.
use Prim.Native.Nat.{ℕ, ◌+◌, ◌*◌, ◌≤◌, ◌<◌}
use native.Mathlib.Omega.{arith}
use mathlib.Core.Path.{◌≡◌, refl}
use mathlib.Core.Bool.{Bool, true, false}
use mathlib.Core.List.{List}
use lib.Dec.{ltb}
use lib.ListN.{get_or}
use borrow.Author.Tests.{ltb-true, ltb-false}
use mir.Val.{bool_byte}

module _ (f : ℕ → Bool) (s : List ℕ) (a : ℕ) where
  -- the least place so far of an octet that isn't in the set: r, with one octet more
  pub least_more : (first k r : ℕ) (ok : Bool) → ((j : ℕ) → j < k → j < first → f (get_or s (a + j) 0) ≡ true) →
      (ok ≡ true → f (get_or s (a + k) 0) ≡ true) → r ≤ first → r ≤ bool_byte ok * 16 + k →
      (j : ℕ) → j < k + 1 → j < r → f (get_or s (a + j) 0) ≡ true
  least_more first k r ok g e below at_Ok j l m = side (ltb j k) refl
    where
      here : (t : Bool) → ok ≡ t → j ≡ k → f (get_or s (a + j) 0) ≡ true
      here true w q = rw q (e w)
      here false w q = absurd (omega (arith, rw w at at_Ok))

      side : (t : Bool) → ltb j k ≡ t → f (get_or s (a + j) 0) ≡ true
      side true w = g j (ltb-true j k w) (omega arith)
      side false w = here ok refl (omega (arith, ltb-false j k w))

pub byte_small : (ok : Bool) → bool_byte ok ≤ 1
byte_small true = omega arith
byte_small false = omega arith
