-- A loop that skips SPs in a meaning where b is true, or other octets where it is false, from place a: it stands at k.
use Prim.Native.Nat.{ℕ, suc, ◌+◌, ◌≤◌, ◌<◌}
use native.Mathlib.Omega.{arith}
use native.Mathlib.Numerals.{add-one}
use mathlib.Core.Path.{◌≡◌, refl, sym, ◌∙◌}
use mathlib.Core.Bool.{Bool, true, false, not, beq}
use mathlib.Core.List.{List, [], ◌∷◌}
use lib.Dec.{ltb, eqb}
use lib.ListN.{get_or}
use borrow.Author.Tests.{ltb-true, ltb-false}
use Rattle.tables.specs.Relation.{runs}
use Rattle.values.specs.Rest.{rest, Meant}
use Rattle.values.proofs.Meant.{none_left}
use Rattle.runs.specs.Runs.{is_none, behind, Skipped, NextRun}
use Rattle.runs.proofs.Words.{runs_word, runs_behind, run_behind}

module _ (b : Bool) where
  pub behind_end : (s : List ℕ) {e k : ℕ} → e ≤ k → rest s e k ≡ behind b (rest s e k)
  behind_end s l = rw (none_left s l)

  -- at place k, where the octet at place p is meant: none is, or it stops the loop, or it is skipped
  module _ {s : List ℕ} {e k p : ℕ} (m : Meant s e k p) where
    pub behind_none : e ≤ p → rest s e e ≡ behind b (rest s e k)
    behind_none l = rw (m.none l, none_left s {e = e} {k = e} (omega arith))

    pub behind_stop : p < e → beq (eqb (get_or s p 0) 32) b ≡ false → rest s e k ≡ behind b (rest s e k)
    behind_stop l q = rw (m.octet l, q, behind)

    pub behind_step : p < e → beq (eqb (get_or s p 0) 32) b ≡ true → behind b (rest s e (p + 1)) ≡ behind b (rest s e k)
    behind_step l q = rw (add-one p, m.octet l, q, behind)

pub record Skipping (b : Bool) (s : List ℕ) (e a k : ℕ) : Type 0 where
  pub forward : a ≤ k
  pub inside : k ≤ e
  pub left : behind b (rest s e k) ≡ behind b (rest s e a)

-- an octet is meant
some : {v : List ℕ} {c : ℕ} {cs : List ℕ} → v ≡ c ∷ cs → v ≡ [] → ⊥
some e n = let z : ◌≡◌ {A = ℕ} 0 1 = cc in absurd (omega arith)

module _ {b : Bool} {s : List ℕ} {e a k : ℕ} (w : Skipping b s e a k) where
  pub skipped : e ≤ k → Skipped b s e a k
  skipped l =
      record {
        forward = w.forward;
        inside = w.inside;
        left = behind_end b s l ∙ w.left;
        stops = λ h. absurd (omega arith);
      }

  module _ {p : ℕ} (m : Meant s e k p) where
    pub skip : p < e → beq (eqb (get_or s p 0) 32) b ≡ true → Skipping b s e a (p + 1)
    skip l q =
        record {
          forward = omega (arith, w.forward, m.from);
          inside = omega arith;
          left = behind_step b m l q ∙ w.left;
        }

    pub skip_stop : p < e → beq (eqb (get_or s p 0) 32) b ≡ false → Skipped b s e a k
    skip_stop l q =
        record {
          forward = w.forward;
          inside = w.inside;
          left = behind_stop b m l q ∙ w.left;
          stops = λ _. some (m.octet l);
        }

    pub skip_none : e ≤ p → Skipped b s e a e
    skip_none l =
        record {
          forward = omega (arith, w.forward, w.inside);
          inside = omega arith;
          left = behind_none b m l ∙ w.left;
          stops = λ h. absurd (omega arith);
        }

-- behind the SPs the next run begins
pub next_begins : {s : List ℕ} {e k r : ℕ} → Skipped true s e k r → NextRun s e k r
next_begins {s} {e} {k} {r} n =
    record {
      forward = n.forward;
      inside = n.inside;
      same_runs = rw n.left (runs_behind (rest s e k));
      begins = λ h. rw n.left (run_behind (rest s e k) (rw n.left at (n.stops h)));
    }

-- there is a run exactly if the next one begins before the end
pub some_runs : {s : List ℕ} {e a k : ℕ} → NextRun s e a k → ltb k e ≡ not (is_none (runs (rest s e a)))
unfolding runs
some_runs {s} {e} {a} {k} n = rw n.same_runs (go (ltb k e) refl)
  where
    go : (b : Bool) → ltb k e ≡ b → b ≡ not (is_none (runs (rest s e k)))
    go true l = rw (runs_word (n.begins (ltb-true k e l)))
    go false l = rw (none_left s (ltb-false k e l))
