-- A triple leads back to the state before it: in a path or a query, and in a fragment. Assumes nothing.
use Prim.Native.Nat.{ℕ, ◌+◌, ◌≤◌}
use native.Mathlib.Omega.{arith}
use mathlib.Core.Path.{◌≡◌, refl}
use mathlib.Core.Bool.{Bool, true, false, ◌&&◌, ◌||◌}
use mathlib.Core.List.{List}
use lib.Dec.{eqb}
use lib.ListN.{length, get_or}
use borrow.Author.Tests.{eqb-true}
use Rattle.octets.specs.Sets.{is_hex, is_digit}
use Rattle.octets.proofs.Octets.{both}
use Rattle.reference_steps.specs.Machine.{step}
use Rattle.reference_scan.specs.Comes.{Comes}
use Rattle.reference_scan.proofs.Between.{comes_then}
use Rattle.reference_scan.proofs.Openings.{octet}

-- the state p behind a `%`, and r behind its first digit
module _ (s : List ℕ) (i : ℕ) (h : i + 3 ≤ length s)
    (e : (eqb (get_or s i 0) 37 && is_hex (get_or s (i + 1) 0) && is_hex (get_or s (i + 2) 0)) ≡ true) where
  around : (q p r : ℕ) → step q 37 ≡ p → ((c : ℕ) → is_hex c ≡ true → step p c ≡ r) → ((c : ℕ) → is_hex c ≡ true → step r c ≡ q)
      → (p ≡ 54 → ⊥) → (r ≡ 54 → ⊥) → (q ≡ 54 → ⊥) → Comes s i q (i + 3) q
  around q p r x y z l m n =
      let d = both _ (is_hex (get_or s (i + 2) 0)) e in
      let b = both (eqb (get_or s i 0) 37) (is_hex (get_or s (i + 1) 0)) d.0 in
      comes_then (octet s i (i + 1) q p 37 (omega arith) (omega arith) (eqb-true (get_or s i 0) 37 b.0) x l)
      (comes_then (octet s (i + 1) (i + 2) p r (get_or s (i + 1) 0) (omega arith) (omega arith) refl (y _ b.1) m)
      (octet s (i + 2) (i + 3) r q (get_or s (i + 2) 0) (omega arith) (omega arith) refl (z _ d.1) n))

  in_path_lem : Comes s i 13 (i + 3) 13
  unfolding step is_hex is_digit
  in_path_lem = around 13 29 45 refl (λ c h. rw h) (λ c h. rw h) (λ e. omega arith) (λ e. omega arith) (λ e. omega arith)

  in_fragment : Comes s i 15 (i + 3) 15
  unfolding step is_hex is_digit
  in_fragment = around 15 31 47 refl (λ c h. rw h) (λ c h. rw h) (λ e. omega arith) (λ e. omega arith) (λ e. omega arith)

  pub triple : (q : ℕ) → (eqb q 13 || eqb q 15) ≡ true → Comes s i q (i + 3) q
  triple q w = side (eqb q 13) refl w
    where
      side : (t : Bool) → eqb q 13 ≡ t → (t || eqb q 15) ≡ true → Comes s i q (i + 3) q
      side true e w = rw (eqb-true q 13 e) in_path_lem
      side false e w = rw (eqb-true q 15 w) in_fragment
