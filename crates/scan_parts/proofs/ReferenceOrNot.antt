-- What judging a target says of it: it is a reference, or, where it is closed all the same, the header is malformed at its start.
use Prim.Native.Nat.{ℕ, suc, ◌-◌, ◌≤◌, ◌<◌}
use native.Mathlib.Omega.{arith}
use native.Mathlib.Decide.{dec_lt}
use mathlib.Core.Path.{◌≡◌, sym, ap, subst, ◌∙◌}
use mathlib.Core.Bool.{true, false≢true}
use mathlib.Core.List.{List}
use lib.Seq.{slice}
use Rattle.reference_steps.specs.Machine.{step, run, accepts}
use Rattle.reference_steps.proofs.Exact.{steps_exact}
use Rattle.reference_scan.specs.Judges.{Judges}
use Rattle.reference_scan.specs.declared.Judged.{Judged}
use Rattle.reference_scan.proofs.Between.{run_cons, run_parts}
use Rattle.reference_scan.proofs.Over.{nowhere}
use Rattle.reference_scan.proofs.Closes.{closes}
use Rattle.grammar.specs.Link.{Link}
use Rattle.grammar.specs.Grammar.{Extra, At, Target}
use Rattle.grammar.specs.Targets.{ReferenceAt, References}
use Rattle.grammar.specs.Place.{MalformedAt}
use Rattle.grammar.specs.Machine.{State, target}
use Rattle.grammar.proofs.Prefix.{is_dead}
use Rattle.grammar.proofs.TargetsHeld.{closed_in}
use Rattle.grammar.proofs.Closing.{Shut, clean}
use Rattle.grammar.proofs.Places.{first_target, faulty_malformed}
use Rattle.tables.proofs.Texts.{target_le}
use Rattle.tables.proofs.ReferenceText.{reference_target}
use Rattle.kinds.specs.declared.Place.{Place}
use Rattle.cursor.specs.declared.Cursor.{Cursor}
use Rattle.std.specs.Prelude.{Ok, Err}
use Rattle.scan_parts.specs.Stands.{Stands}
use Rattle.scan_parts.specs.Scanned.{TargetScanned, no_target, closed, ReferenceScanned, no_reference, a_reference}
use Rattle.scan_parts.proofs.TargetSoFar.{target_stands}

-- a target that is closed, and is no reference
closed_bad : (s : List ℕ) {a d : ℕ} → Target s a d → At s d 62 → (ReferenceAt s a d → ⊥) → (extra : Extra) (ls : List Link)
    → Stands extra s (target ls a) a → References s ls → MalformedAt extra s a
closed_bad s {a} {d} t q n extra ls p refs =
    let here = target_stands ls a t p in
    let shut : Shut extra s a d = record { inside = q.inside; octet = q.is; held = ls; stands = here.is } in
    record {
      malformed = faulty_malformed extra p.apart shut n;
      place =
          first_target extra p.apart shut n
          (clean extra d here.inside (ap is_dead here.is)
          (subst (λ (x : State). References s (closed_in x)) (sym here.is) refs));
    }

module _ {s : List ℕ} {a : ℕ} {r : Judged} (j : Judges s a 0 r) where
  pub is_reference_lem : {c : Cursor} → c.at.0 ≡ r.at.at.0 → accepts r.state ≡ true → At s c.at.0 62 → ReferenceScanned s a (Ok c)
  is_reference_lem {c} e y q =
      let reference : ReferenceAt s a r.at.at.0 =
      steps_exact.reference (slice a r.at.at.0 s) (ap accepts (sym j.state) ∙ y)
      in
      a_reference (subst (Target s a) (sym e) (reference_target s a r.at.at.0 j.forward j.inside reference))
      (subst (ReferenceAt s a) (sym e) reference) q

  -- where the target ends at d, the judging tells
  tells : {d : ℕ} → At s d 62 → a ≤ d → (r.at.at.0 ≡ d → accepts r.state ≡ true → ⊥) → ReferenceAt s a d → ⊥
  tells {d} q l n ref = go (dec_lt r.at.at.0 d) (dec_lt d r.at.at.0)
    where
      k : ℕ
      k = r.at.at.0

      yes_by_run : accepts (run 0 (slice a d s)) ≡ true
      yes_by_run = steps_exact.accepted (slice a d s) ref

      go : Dec (r.at.at.0 < d) → Dec (d < r.at.at.0) → ⊥
      go (yes m) w =
          let dead : run 0 (slice a d s) ≡ 54 =
          run_parts s (r.at.at.0 - a) 0 a r.at.at.0 d (omega (arith, j.forward)) (omega arith) (omega (arith, q.inside))
          ∙ ap (λ (x : ℕ). run x (slice r.at.at.0 d s)) (sym j.state)
          ∙ run_cons s r.state r.at.at.0 d m (omega (arith, q.inside))
          ∙ ap (λ (x : ℕ). run x (slice (suc r.at.at.0) d s)) (j.stops (omega (arith, q.inside)))
          ∙ nowhere (slice (suc r.at.at.0) d s)
          in
          false≢true (sym (ap accepts dead) ∙ yes_by_run)
      go (no m) (yes w) =
          let dead : run 0 (slice a r.at.at.0 s) ≡ 54 =
          run_parts s (d - a) 0 a d r.at.at.0 (omega arith) (omega arith) j.inside
          ∙ run_cons s (run 0 (slice a d s)) d r.at.at.0 w j.inside
          ∙ ap (λ (x : ℕ). run x (slice (suc d) r.at.at.0 s))
          (ap (step (run 0 (slice a d s))) q.is ∙ closes (run 0 (slice a d s)))
          ∙ nowhere (slice (suc d) r.at.at.0 s)
          in
          j.lives (λ z. omega arith) (j.state ∙ dead)
      go (no m) (no w) =
          let e : r.at.at.0 ≡ d = omega arith in
          n e (ap accepts (j.state ∙ ap (λ (i : ℕ). run 0 (slice a i s)) e) ∙ yes_by_run)

  pub closed_all_the_same : {d : Cursor} → TargetScanned s a (Ok d) → (At s r.at.at.0 62 → accepts r.state ≡ true → ⊥)
      → ReferenceScanned s a (Err (record { 0 = a }))
  closed_all_the_same (closed x q) n =
      no_reference
      (closed_bad s x q (tells q (target_le s x) (λ w y. n (subst (λ (i : ℕ). At s i 62) (sym w) q) y)))

pub stuck_all_the_same : {s : List ℕ} {a : ℕ} {p : Place} → TargetScanned s a (Err p) → ReferenceScanned s a (Err p)
stuck_all_the_same {a = a} (no_target f) = no_reference (λ extra ls x refs. f extra ls a x refs)
