-- The machine between places of a text. Assumes nothing.
use Prim.Native.Nat.{ℕ, zero, suc, ◌+◌, ◌-◌, ◌≤◌, ◌<◌}
use native.Mathlib.Numerals.{add-one}
use native.Mathlib.Omega.{arith}
use mathlib.Core.Path.{◌≡◌, sym, ap, ◌∙◌}
use mathlib.Core.Bool.{true}
use mathlib.Core.List.{List}
use lib.ListN.{length, get_or}
use lib.Seq.{slice, slice_empty, slice-cons}
use borrow.Author.Tests.{eqb-true}
use Rattle.reference_steps.specs.Machine.{step, run}
use Rattle.reference_scan.specs.Passed.{Passed, keeps}
use Rattle.reference_scan.specs.Comes.{Comes}
use Rattle.reference_scan.specs.Judges.{Judges}
use Rattle.reference_scan.specs.declared.Judged.{Judged}

module _ (s : List ℕ) where
  -- the octet at a first
  pub run_cons : (q a e : ℕ) → a < e → e ≤ length s → run q (slice a e s) ≡ run (step q (get_or s a 0)) (slice (suc a) e s)
  run_cons q a e l h = ap (run q) (slice-cons a e s 0 l h)

  -- two parts, one behind the other
  pub run_parts : (n q a e f : ℕ) → e ≡ a + n → e ≤ f → f ≤ length s →
      run q (slice a f s) ≡ run (run q (slice a e s)) (slice e f s)
  run_parts zero q a e f w l h =
      let same : a ≡ e = omega arith in
      rw same (ap (λ (v : List ℕ). run (run q v) (slice e f s)) (sym (slice_empty e s)))
  run_parts (suc n) q a e f w l h =
      run_cons q a f (omega arith) h
      ∙ run_parts n (step q (get_or s a 0)) (suc a) e f (omega arith) l h
      ∙ ap (λ (p : ℕ). run p (slice e f s)) (sym (run_cons q a e (omega arith) (omega arith)))

  -- octets that keep the state
  pub run_kept : (n q a e : ℕ) → e ≡ a + n → e ≤ length s → ((k : ℕ) → a ≤ k → k < e → keeps q (get_or s k 0) ≡ true) →
      run q (slice a e s) ≡ q
  run_kept zero q a e w h g = let same : a ≡ e = omega arith in rw same (ap (run q) (slice_empty e s))
  run_kept (suc n) q a e w h g =
      run_cons q a e (omega arith) h
      ∙ ap (λ (p : ℕ). run p (slice (suc a) e s)) (eqb-true (step q (get_or s a 0)) q (g a (omega arith) (omega arith)))
      ∙ run_kept n q (suc a) e (omega arith) h (λ k l m. g k (omega arith) m)

module _ {s : List ℕ} where
  pub comes_none : {a : ℕ} (q : ℕ) → a ≤ length s → Comes s a q a q
  comes_none {a} q h = record { forward = omega arith; inside = h; state = sym (ap (run q) (slice_empty a s)); lives = λ n. n }

  pub comes_then : {a q b p e r : ℕ} → Comes s a q b p → Comes s b p e r → Comes s a q e r
  comes_then {a} {q} {b} {p} {e} {r} x y =
      record {
        forward = omega (arith, x.forward, y.forward);
        inside = y.inside;
        state =
            y.state ∙ ap (λ (o : ℕ). run o (slice b e s)) x.state
            ∙ sym (run_parts s (b - a) q a b e (omega (arith, x.forward)) y.forward y.inside);
        lives = λ n. y.lives (x.lives n);
      }

  -- one octet
  pub comes_step : {a q p : ℕ} → a < length s → p ≡ step q (get_or s a 0) → (p ≡ 54 → ⊥) → Comes s a q (a + 1) p
  comes_step {a} {q} {p} h w n =
      record {
        forward = omega arith;
        inside = omega arith;
        state =
            rw (add-one a)
            (w ∙ sym (run_cons s q a (suc a) (omega arith) (omega arith) ∙ ap (run (step q (get_or s a 0))) (slice_empty (suc a) s)));
        lives = λ x. n;
      }

  -- a run that keeps the state
  pub comes_kept : {a q e : ℕ} → Passed (keeps q) s a e → Comes s a q e q
  comes_kept {a} {q} {e} p =
      record {
        forward = p.forward;
        inside = p.inside;
        state = sym (run_kept s (e - a) q a e (omega (arith, p.forward)) p.inside p.all);
        lives = λ n. n;
      }

  -- judged to its end
  pub judged_here : {a q e p : ℕ} (r : Judged) → (r.at.at.0 ≡ e) × (r.state ≡ p) → Comes s a q e p →
      (e < length s → step p (get_or s e 0) ≡ 54) → Judges s a q r
  judged_here r w x h =
      record {
        forward = rw w.0 x.forward;
        inside = rw w.0 x.inside;
        state = rw (w.0, w.1) x.state;
        stops = rw (w.0, w.1) h;
        lives = rw w.1 x.lives;
      }

  pub comes_here : {a q e p : ℕ} (r : Judged) → (r.at.at.0 ≡ e) × (r.state ≡ p) → Comes s a q e p → Comes s a q r.at.at.0 r.state
  comes_here r w x = rw (w.0, w.1) x

  -- and from there judged on
  pub judged_then : {a q b p : ℕ} {r : Judged} → Comes s a q b p → Judges s b p r → Judges s a q r
  judged_then {a} {q} {b} {p} {r} x y =
      let z = comes_then x (record { forward = y.forward; inside = y.inside; state = y.state; lives = y.lives }) in
      record { forward = z.forward; inside = z.inside; state = z.state; stops = y.stops; lives = z.lives }
