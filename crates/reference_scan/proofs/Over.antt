-- A part of a text judged as a text of its own. Assumes nothing.
use Prim.Native.Nat.{ℕ, suc, ◌-◌, ◌≤◌, ◌<◌}
use native.Mathlib.Omega.{arith}
use mathlib.Core.Path.{◌≡◌, refl, sym, ap, ◌∙◌}
use mathlib.Core.List.{List, [], ◌∷◌}
use lib.ListN.{length, take, drop}
use lib.Seq.{slice, length-take-le, take-length}
use Rattle.reference_steps.specs.Machine.{step, run}
use Rattle.reference_scan.specs.Judges.{Judges}
use Rattle.reference_scan.specs.declared.Judged.{Judged}
use Rattle.reference_scan.proofs.Between.{run_cons, run_parts}

-- nothing follows on 54
stuck : (c : ℕ) → step 54 c ≡ 54
unfolding step
stuck c = refl

pub nowhere : (w : List ℕ) → run 54 w ≡ 54
nowhere [] = refl
nowhere (c ∷ w) = ap (λ (q : ℕ). run q w) (stuck c) ∙ nowhere w

module _ (s : List ℕ) (a q : ℕ) (r : Judged) (j : Judges s a q r) where
  -- an octet led nowhere before the end
  pub stopped : r.at.at.0 < length s → run q (slice a (length s) s) ≡ 54
  stopped l =
      run_parts s (r.at.at.0 - a) q a r.at.at.0 (length s) (omega (arith, j.forward)) j.inside (omega arith)
      ∙ ap (λ (p : ℕ). run p (slice r.at.at.0 (length s) s)) (sym j.state)
      ∙ run_cons s r.state r.at.at.0 (length s) l (omega arith)
      ∙ ap (λ (p : ℕ). run p (slice (suc r.at.at.0) (length s) s)) (j.stops l)
      ∙ nowhere (slice (suc r.at.at.0) (length s) s)

  pub whole : length s ≤ r.at.at.0 → r.state ≡ run q (slice a (length s) s)
  whole l =
      let end : r.at.at.0 ≡ length s = omega (arith, j.inside) in
      rw end at j.state

-- the part up to a place
module _ (s : List ℕ) (a q to : ℕ) (r : Judged) (h : to ≤ length s) (j : Judges (take to s) a q r) where
  part : slice a (length (take to s)) (take to s) ≡ slice a to s
  part = ap (drop a) (take-length (take to s))

  pub stopped_over : r.at.at.0 < to → 54 ≡ run q (slice a to s)
  stopped_over l = sym (ap (run q) (sym part) ∙ stopped (take to s) a q r j (rw (length-take-le to s h) l))

  pub whole_over : to ≤ r.at.at.0 → r.state ≡ run q (slice a to s)
  whole_over l = whole (take to s) a q r j (rw (length-take-le to s h) l) ∙ ap (run q) part
