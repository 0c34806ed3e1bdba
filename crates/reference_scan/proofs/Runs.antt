-- Runs of octets of a set. Assumes nothing.
use Prim.Native.Nat.{ℕ, ◌+◌, ◌-◌, ◌≤◌, ◌<◌}
use native.Mathlib.Omega.{arith}
use native.Mathlib.Numerals.{add-one}
use mathlib.Core.Path.{◌≡◌, refl}
use mathlib.Core.Bool.{Bool, true, false}
use mathlib.Core.List.{List}
use lib.Dec.{ltb}
use lib.ListN.{length, get_or}
use borrow.Author.Tests.{ltb-true, ltb-false}
use Rattle.grammar.specs.Grammar.{Run, run_end, run_more}
use Rattle.cursor.proofs.RunSoFar.{RunSoFar}
use Rattle.reference_scan.specs.Passed.{Passed}

module _ {f : ℕ → Bool} {s : List ℕ} where
  pub passed_none : {a : ℕ} → a ≤ length s → Passed f s a a
  passed_none h = record { forward = omega arith; inside = h; all = λ k l m. absurd (omega arith) }

  pub passed_then : {a b e : ℕ} → Passed f s a b → Passed f s b e → Passed f s a e
  passed_then {a} {b} {e} p q =
      record {
        forward = omega (arith, p.forward, q.forward);
        inside = q.inside;
        all = λ k l m. side k l m (ltb k b) refl;
      }
    where
      side : (k : ℕ) → a ≤ k → k < e → (t : Bool) → ltb k b ≡ t → f (get_or s k 0) ≡ true
      side k l m true w = p.all k l (ltb-true k b w)
      side k l m false w = q.all k (ltb-false k b w) m

  -- the last of them
  pub passed_from : {a i e : ℕ} → Passed f s a e → a ≤ i → i ≤ e → Passed f s i e
  passed_from p l m = record { forward = m; inside = p.inside; all = λ k u v. p.all k (omega (arith, u)) v }

  -- one octet more
  pub passed_more : {a i : ℕ} → Passed f s a i → i < length s → f (get_or s i 0) ≡ true → Passed f s a (i + 1)
  passed_more {a} {i} p h e =
      passed_then p
      (record {
        forward = omega arith;
        inside = omega arith;
        all = λ k l m. let q : k ≡ i = omega arith in rw q e;
      })

  run_passed : {a e : ℕ} → e ≤ length s → Run s f a e → Passed f s a e
  run_passed h run_end = passed_none h
  run_passed {a} h (run_more c r) =
      passed_then (rw (add-one a) at (passed_more (passed_none (omega (arith, c.inside))) c.inside c.is)) (run_passed h r)

  pub passed_run : {a e : ℕ} → RunSoFar f s a e → Passed f s a e
  passed_run g = run_passed g.inside g.run

  -- octets counted from a
  pub passed_count : (a n : ℕ) → a + n ≤ length s → ((j : ℕ) → j < n → f (get_or s (a + j) 0) ≡ true) → Passed f s a (a + n)
  passed_count a n h g =
      record {
        forward = omega arith;
        inside = h;
        all = λ k l m. let q : a + (k - a) ≡ k = omega arith in rw q at (g (k - a) (omega arith));
      }

-- a set within another
pub passed_within : {f g : ℕ → Bool} {s : List ℕ} {a e : ℕ} → ((c : ℕ) → f c ≡ true → g c ≡ true) → Passed f s a e → Passed g s a e
passed_within {f} {g} {s} h p =
    record { forward = p.forward; inside = p.inside; all = λ k l m. h (get_or s k 0) (p.all k l m) }
