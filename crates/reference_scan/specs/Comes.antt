-- The machine of references between two places of a text.
use Rattle.std.specs.Prelude.{ℕ, ◌≤◌, ◌≡◌, List, length}
use Rattle.std.proofs.Math.Seq.{slice}
use Rattle.reference_steps.specs.Machine.{run}

-- from place a in the state q it comes to place e in the state p, and a reference may still come of it if one might before
pub record Comes (s : List ℕ) (a q e p : ℕ) : Type 0 where
  pub forward : a ≤ e
  pub inside : e ≤ length s
  pub state : p ≡ run q (slice a e s)
  pub lives : (q ≡ 54 → ⊥) → p ≡ 54 → ⊥
