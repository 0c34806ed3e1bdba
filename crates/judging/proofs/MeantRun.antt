-- The machine over what a part means, its backslashes taken out. Assumes nothing.
use Prim.Native.Nat.{ℕ, zero, suc, ◌+◌, ◌-◌, ◌≤◌, ◌<◌}
use native.Mathlib.Omega.{arith}
use mathlib.Core.Path.{◌≡◌, sym, ap, ◌∙◌}
use mathlib.Core.List.{List}
use lib.ListN.{length, get_or, take, drop}
use lib.Seq.{slice, slice_empty, length-take-le, take-take, get_or-take}
use Rattle.reference_steps.specs.Machine.{step, run}
use Rattle.reference_scan.specs.Judges.{Judges}
use Rattle.reference_scan.specs.declared.Judged.{Judged}
use Rattle.reference_scan.proofs.Between.{run_cons}
use Rattle.reference_scan.proofs.Closes.{no_backslash}
use Rattle.reference_scan.proofs.Over.{nowhere}
use Rattle.values.specs.Rest.{rest, Meant}
use Rattle.values.proofs.Meant.{none_left, at_plain, at_backslash, octet_step}

module _ (s : List ℕ) {to : ℕ} (h : to ≤ length s) where
  -- the octet meant first
  run_meant : {k p : ℕ} (q : ℕ) → Meant s to k p → p < to → run q (rest s to k) ≡ run (step q (get_or s p 0)) (rest s to (suc p))
  run_meant q m l = ap (run q) (m.octet l)

  -- Octets that lead somewhere stand for themselves, since no state takes a backslash.
  run_plain : (n q a e : ℕ) → e ≡ a + n → e ≤ to → (run q (slice a e s) ≡ 54 → ⊥)
      → run q (rest s to a) ≡ run (run q (slice a e s)) (rest s to e)
  run_plain zero q a e w l lives =
      let same : a ≡ e = omega arith in
      rw same (ap (λ (v : List ℕ). run (run q v) (rest s to e)) (sym (slice_empty e s)))
  run_plain (suc n) q a e w l lives =
      run_meant q (at_plain (omega arith) h plain) (omega arith)
      ∙ run_plain n (step q (get_or s a 0)) (suc a) e (omega arith) l (λ x. lives (first ∙ x))
      ∙ ap (λ (p : ℕ). run p (rest s to e)) (sym first)
    where
      first : run q (slice a e s) ≡ run (step q (get_or s a 0)) (slice (suc a) e s)
      first = run_cons s q a e (omega arith) (omega arith)

      plain : get_or s a 0 ≡ 92 → ⊥
      plain b =
          lives
          (first ∙ ap (λ (p : ℕ). run p (slice (suc a) e s)) (ap (step q) b ∙ no_backslash q) ∙ nowhere (slice (suc a) e s))

  module _ {a q : ℕ} {r : Judged} (live : q ≡ 54 → ⊥) (j : Judges (take to s) a q r) where
    pub judged_inside : r.at.at.0 ≤ to
    judged_inside = rw (length-take-le to s h) at j.inside

    state_here : r.state ≡ run q (slice a r.at.at.0 s)
    state_here = j.state ∙ ap (λ (v : List ℕ). run q (drop a v)) (take-take r.at.at.0 to s judged_inside)

    -- what was judged means itself
    pub judged_plain : run q (rest s to a) ≡ run r.state (rest s to r.at.at.0)
    judged_plain =
        run_plain (r.at.at.0 - a) q a r.at.at.0 (omega (arith, j.forward)) judged_inside (λ x. j.lives live (state_here ∙ x))
        ∙ ap (λ (p : ℕ). run p (rest s to r.at.at.0)) (sym state_here)

    -- up to the end
    pub judged_all : to ≤ r.at.at.0 → run q (rest s to a) ≡ r.state
    judged_all l = judged_plain ∙ ap (run r.state) (none_left s l)

    -- up to an octet that stands for itself
    pub judged_stuck : r.at.at.0 < to → (get_or s r.at.at.0 0 ≡ 92 → ⊥) → run q (rest s to a) ≡ 54
    judged_stuck l n =
        judged_plain
        ∙ run_meant r.state (at_plain l h n) l
        ∙ ap (λ (p : ℕ). run p (rest s to (suc r.at.at.0))) leads
        ∙ nowhere (rest s to (suc r.at.at.0))
      where
        leads : step r.state (get_or s r.at.at.0 0) ≡ 54
        leads =
            ap (step r.state) (sym (get_or-take to s r.at.at.0 0 l))
            ∙ j.stops (rw (length-take-le to s h) l)

    module _ (l : r.at.at.0 < to) (b : get_or s r.at.at.0 0 ≡ 92) where
      -- up to a backslash that stands for nothing
      pub judged_lone : to ≤ r.at.at.0 + 1 → run q (rest s to a) ≡ r.state
      judged_lone e = judged_plain ∙ ap (run r.state) ((at_backslash l h b).none e)

      -- up to one that stands for the octet behind it
      pub judged_pair : r.at.at.0 + 1 < to
          → run q (rest s to a) ≡ run (step r.state (get_or s (r.at.at.0 + 1) 0)) (rest s to (r.at.at.0 + 1 + 1))
      judged_pair e = judged_plain ∙ ap (run r.state) (octet_step (at_backslash l h b) e)
