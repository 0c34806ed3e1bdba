-- A loop that compares a run of a meaning with q, from place a: it stands at place k, and at octet number i of q.
use Prim.Native.Nat.{ℕ, suc, ◌+◌, ◌≤◌, ◌<◌}
use native.Mathlib.Omega.{arith}
use native.Mathlib.Nat.{eq-or-lt_of_le}
use native.Mathlib.Numerals.{add-one}
use mathlib.Core.Path.{◌≡◌, refl, sym, ◌∙◌}
use mathlib.Core.Logic.{⊎_elim}
use mathlib.Core.Bool.{Bool, true, false, ◌&&◌, true≢false}
use mathlib.Core.List.{List, [], ◌∷◌}
use lib.Dec.{ltb, eqb}
use lib.ListN.{length, get_or, drop, drop_of_length-le}
use lib.Seq.{drop-cons}
use borrow.Author.Tests.{eq-eqb, ne_eqb, ltb-true, ltb-false}
use Rattle.octets.specs.Fold.{fold, same_folded}
use Rattle.octets.proofs.Octets.{both}
use Rattle.kinds.specs.declared.Place.{Place}
use Rattle.values.specs.Rest.{rest, Meant}
use Rattle.values.proofs.Meant.{none_left}
use Rattle.runs.specs.Runs.{word, behind, AtRun, at_run, Skipped, agrees_at, MatchRun}
use Rattle.runs.proofs.Words.{runs_word}
use Rattle.runs.proofs.Skipping.{behind_end, behind_none, behind_stop, behind_step}

-- ---- octet number i of q against the octet c, with what is behind each

module _ (q : List ℕ) (i c : ℕ) (w : List ℕ) where
  pub agreed : agrees_at q i c ≡ true → same_folded (c ∷ w) (drop i q) ≡ same_folded w (drop (i + 1) q)
  unfolding same_folded
  agreed e =
      let b = both (ltb i (length q)) (eqb (fold c) (fold (get_or q i 0))) e in
      rw (add-one i, drop-cons q i 0 (ltb-true i (length q) b.0), b.1)

  pub differed : agrees_at q i c ≡ false → same_folded (c ∷ w) (drop i q) ≡ false
  unfolding same_folded
  differed e = go (ltb i (length q)) refl e
    where
      go : (b : Bool) → ltb i (length q) ≡ b → (b && eqb (fold c) (fold (get_or q i 0))) ≡ false → same_folded (c ∷ w) (drop i q) ≡ false
      go true l e = rw (drop-cons q i 0 (ltb-true i (length q) l), e)
      go false l e = rw (drop_of_length-le q (ltb-false i (length q) l))

-- nothing is left to compare: all of q was passed, or not
pub all_passed : (q : List ℕ) (i : ℕ) → i ≤ length q → same_folded [] (drop i q) ≡ eqb i (length q)
unfolding same_folded
all_passed q i h = ⊎_elim at_its_end before (eq-or-lt_of_le h)
  where
    at_its_end : i ≡ length q → same_folded [] (drop i q) ≡ eqb i (length q)
    at_its_end e = rw (eq-eqb i (length q) e, drop_of_length-le q {i = i} (omega arith))

    before : i < length q → same_folded [] (drop i q) ≡ eqb i (length q)
    before l = rw (drop-cons q i 0 l) (sym (ne_eqb i (length q) (λ e. omega arith)))

-- ---- the loop

pub record Matching (s : List ℕ) (e a : ℕ) (q : List ℕ) (i k : ℕ) : Type 0 where
  pub forward : a ≤ k
  pub inside : k ≤ e
  pub within : i ≤ length q
  pub left : behind false (rest s e k) ≡ behind false (rest s e a)
  pub alike : same_folded (word (rest s e a)) q ≡ same_folded (word (rest s e k)) (drop i q)

-- SP begins no run
no_run : {v : List ℕ} (c : ℕ) (cs : List ℕ) → AtRun v → v ≡ c ∷ cs → c ≡ 32 → ⊥
no_run c cs (at_run {c = d} n) e q =
    let x : d ≡ c = cc in true≢false (sym (eq-eqb d 32 (x ∙ q)) ∙ n)

module _ {s : List ℕ} {e a : ℕ} {q : List ℕ} {i k : ℕ} (w : Matching s e a q i k) (b : AtRun (rest s e a)) where
  -- the run ended at place r with all that was compared alike
  ended : (r : Place) → a < r.0 → r.0 ≤ e → rest s e r.0 ≡ behind false (rest s e k) → word (rest s e k) ≡ []
      → MatchRun s e a q (record { same = eqb i (length q); next = r })
  ended r h l n none =
      record {
        forward = h;
        inside = l;
        first = rw (n ∙ w.left) (runs_word b);
        matches = sym (w.alike ∙ rw none (all_passed q i w.within));
      }

  -- at the end of the part
  pub match_end : {r : Place} → r.0 ≡ k → a < e → e ≤ k → MatchRun s e a q (record { same = eqb i (length q); next = r })
  match_end {r} z h l =
      ended r (omega (arith, w.inside)) (omega (arith, w.inside)) (rw z (behind_end false s l)) (rw (none_left s l))

  module _ {p : ℕ} (m : Meant s e k p) where
    -- at a lone backslash
    pub match_none : {r : Place} → r.0 ≡ e → a < e → e ≤ p → MatchRun s e a q (record { same = eqb i (length q); next = r })
    match_none {r} z h l = ended r (omega arith) (omega arith) (rw z (behind_none false m l)) (rw (m.none l))

    -- at SP
    pub match_stop : {r : Place} → r.0 ≡ k → p < e → get_or s p 0 ≡ 32 → MatchRun s e a q (record { same = eqb i (length q); next = r })
    match_stop {r} z l y =
        ended r
        (rw z
        (⊎_elim (λ h. absurd (no_run (get_or s p 0) (rest s e (suc p)) b (rw h (m.octet l)) y)) (λ h. h) (eq-or-lt_of_le w.forward)))
        (rw z w.inside) (rw z (behind_stop false m l (rw (eq-eqb _ _ y)))) (rw (m.octet l, eq-eqb _ _ y, word))

    module _ (l : p < e) (z : get_or s p 0 ≡ 32 → ⊥) where
      now_word : word (rest s e k) ≡ get_or s p 0 ∷ word (rest s e (suc p))
      now_word = rw (m.octet l, ne_eqb _ _ z, word)

      now_left : behind false (rest s e (p + 1)) ≡ behind false (rest s e a)
      now_left = behind_step false m l (rw (ne_eqb _ _ z)) ∙ w.left

      pub match_more : agrees_at q i (get_or s p 0) ≡ true → Matching s e a q (i + 1) (p + 1)
      match_more y =
          record {
            forward = omega (arith, w.forward, m.from);
            inside = omega arith;
            within = omega (arith, ltb-true i (length q) (both _ _ y).0);
            left = now_left;
            alike = rw (add-one p) (w.alike ∙ rw now_word (agreed q i (get_or s p 0) (word (rest s e (suc p))) y));
          }

      -- at an octet that differs, with the end of the run at r
      pub match_differs : {r : Place} → agrees_at q i (get_or s p 0) ≡ false → Skipped false s e (p + 1) r.0
          → MatchRun s e a q (record { same = false; next = r })
      match_differs {r} y d =
          record {
            forward = omega (arith, w.forward, m.from, d.forward);
            inside = d.inside;
            first = rw (d.left ∙ now_left) (runs_word b);
            matches = sym (w.alike ∙ rw now_word (differed q i (get_or s p 0) (word (rest s e (suc p))) y));
          }
