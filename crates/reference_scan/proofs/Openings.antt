-- How `http://` and `https://` lead to the state behind two slashes, and a slash alone into a path. Assumes nothing.
use Prim.Native.Nat.{ℕ, ◌+◌, ◌≤◌, ◌<◌}
use native.Mathlib.Omega.{arith}
use mathlib.Core.Path.{◌≡◌, refl, sym, ap, ◌∙◌}
use mathlib.Core.Bool.{true, false, not, ◌&&◌}
use mathlib.Core.List.{List}
use lib.Dec.{eqb}
use lib.ListN.{length, get_or}
use borrow.Author.Tests.{eqb-true, not-true}
use Rattle.octets.proofs.Octets.{both}
use Rattle.reference_steps.specs.Machine.{step}
use Rattle.reference_sets.specs.Sets.{is_path}
use Rattle.reference_scan.specs.Comes.{Comes}
use Rattle.reference_scan.proofs.Between.{comes_step, comes_then}

-- behind a slash no other one
path_step : (c : ℕ) → is_path c ≡ true → eqb c 47 ≡ false → step 4 c ≡ 13
unfolding step
path_step c h n = rw (h, n)

module _ (s : List ℕ) where
  -- the octet c at a
  pub octet : (a e q p c : ℕ) → e ≡ a + 1 → a < length s → get_or s a 0 ≡ c → step q c ≡ p → (p ≡ 54 → ⊥) → Comes s a q e p
  octet a e q p c w l g t n = rw w (comes_step l (sym (ap (step q) g ∙ t)) n)

  module _ (i : ℕ) where
    -- what stands k octets further on
    abbrev at : ℕ → ℕ
    at k = get_or s (i + k) 0

    pub http : i + 4 ≤ length s → (eqb (get_or s i 0) 104 && eqb (at 1) 116 && eqb (at 2) 116 && eqb (at 3) 112) ≡ true →
        Comes s i 0 (i + 4) 1
    unfolding step
    http h e =
        let d = both _ (eqb (at 3) 112) e in
        let c = both _ (eqb (at 2) 116) d.0 in
        let b = both (eqb (get_or s i 0) 104) (eqb (at 1) 116) c.0 in
        comes_then
        (octet i (i + 1) 0 1 104 (omega arith) (omega arith) (eqb-true (get_or s i 0) 104 b.0) refl (λ e. omega arith))
        (comes_then (octet (i + 1) (i + 2) 1 1 116 (omega arith) (omega arith) (eqb-true (at 1) 116 b.1) refl (λ e. omega arith))
        (comes_then (octet (i + 2) (i + 3) 1 1 116 (omega arith) (omega arith) (eqb-true (at 2) 116 c.1) refl (λ e. omega arith))
        (octet (i + 3) (i + 4) 1 1 112 (omega arith) (omega arith) (eqb-true (at 3) 112 d.1) refl (λ e. omega arith))))

    pub slashes : i + 3 ≤ length s → (eqb (get_or s i 0) 58 && eqb (at 1) 47 && eqb (at 2) 47) ≡ true → Comes s i 1 (i + 3) 5
    unfolding step
    slashes h e =
        let c = both _ (eqb (at 2) 47) e in
        let b = both (eqb (get_or s i 0) 58) (eqb (at 1) 47) c.0 in
        comes_then
        (octet i (i + 1) 1 3 58 (omega arith) (omega arith) (eqb-true (get_or s i 0) 58 b.0) refl (λ e. omega arith))
        (comes_then (octet (i + 1) (i + 2) 3 4 47 (omega arith) (omega arith) (eqb-true (at 1) 47 b.1) refl (λ e. omega arith))
        (octet (i + 2) (i + 3) 4 5 47 (omega arith) (omega arith) (eqb-true (at 2) 47 c.1) refl (λ e. omega arith)))

    -- a slash, and an octet of a path that is none
    pub root : i + 2 ≤ length s → (eqb (get_or s i 0) 47 && not (eqb (at 1) 47) && is_path (at 1)) ≡ true → Comes s i 0 (i + 2) 13
    unfolding step
    root h e =
        let c = both _ (is_path (at 1)) e in
        let b = both (eqb (get_or s i 0) 47) (not (eqb (at 1) 47)) c.0 in
        comes_then
        (octet i (i + 1) 0 4 47 (omega arith) (omega arith) (eqb-true (get_or s i 0) 47 b.0) refl (λ e. omega arith))
        (octet (i + 1) (i + 2) 4 13 (at 1) (omega arith) (omega arith) refl (path_step (at 1) c.1 (not-true (eqb (at 1) 47) b.1)) (λ e. omega arith))

    -- `http` and what follows it
    pub plainly : Comes s i 0 (i + 4) 1 → Comes s (i + 4) 1 (i + 4 + 3) 5 → Comes s i 0 (i + 7) 5
    plainly a b = let w : i + 4 + 3 ≡ i + 7 = omega arith in rw w at (comes_then a b)

    pub securely : i + 8 ≤ length s → at 4 ≡ 115 → Comes s i 0 (i + 4) 1 → Comes s (i + 5) 1 (i + 5 + 3) 5 → Comes s i 0 (i + 8) 5
    unfolding step
    securely h e a b =
        let w : i + 5 + 3 ≡ i + 8 = omega arith in
        rw w at (comes_then a (comes_then (octet (i + 4) (i + 5) 1 1 115 (omega arith) (omega arith) e refl (λ e. omega arith)) b))
