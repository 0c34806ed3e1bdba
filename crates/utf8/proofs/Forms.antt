-- How few octets a number takes. Assumes nothing.
use Prim.Native.Nat.{ℕ, ◌≤◌, ◌<◌}
use native.Mathlib.Omega.{arith}
use mathlib.Core.List.{List}
use Rattle.utf8.specs.Numbers.{InOctets, in_one, in_two, in_three, in_four}

-- where fewer octets than j don't hold n, no form of n has fewer
pub at_least : (j n : ℕ) → (n < 0x80 → j ≤ 1) → (n < 0x800 → j ≤ 2) → (n < 0x10000 → j ≤ 3) → j ≤ 4 → (k : ℕ) (v : List ℕ)
    → InOctets n k v → j ≤ k
at_least j n one two three four k v (in_one l) = one l
at_least j n one two three four k v (in_two l) = two l
at_least j n one two three four k v (in_three l) = three l
at_least j n one two three four k v (in_four l) = four

-- and where no form of n has fewer than j, fewer don't hold it
module _ (j n : ℕ) (shortest : (k : ℕ) (v : List ℕ) → InOctets n k v → j ≤ k) where
  pub not_in_one : 2 ≤ j → 0x80 ≤ n
  not_in_one h = let no : n < 0x80 → ⊥ = λ l. omega (arith, shortest 1 _ (in_one l)) in omega arith

  pub not_in_two : 3 ≤ j → 0x800 ≤ n
  not_in_two h = let no : n < 0x800 → ⊥ = λ l. omega (arith, shortest 2 _ (in_two l)) in omega arith

  pub not_in_three : 4 ≤ j → 0x10000 ≤ n
  not_in_three h = let no : n < 0x10000 → ⊥ = λ l. omega (arith, shortest 3 _ (in_three l)) in omega arith
