-- The codes of names: a code that is not 0 tells the name, and kept once are the first six known names.
use Prim.Native.Nat.{ℕ, zero, suc, ◌+◌, ◌-◌, ◌≤◌, ◌<◌}
use native.Mathlib.Omega.{arith}
use native.Mathlib.Nat.{sub_self}
use mathlib.Core.Path.{◌≡◌, refl, sym, ap, ◌∙◌}
use mathlib.Core.Bool.{Bool, true, false, true≢false}
use mathlib.Core.List.{List, [], ◌∷◌}
use lib.Dec.{eqb}
use lib.ListN.{length, take, get_or}
use borrow.Author.Tests.{eqb-true, eqb-false, le-leb, lt-leb}
use Rattle.octets.specs.Fold.{same}
use Rattle.octets.proofs.Laws.{same_sound, same_refl, same_false}
use Rattle.grammar.specs.Kept.{among, known_names, code_from, code_of, once_code, is_once}
use Rattle.grammar.specs.Laws.{Codes}

-- of the names ms, numbered from 1 + k on
module _ (n : List ℕ) where
  none_code : (ms : List (List ℕ)) (k : ℕ) → among ms n ≡ false → code_from ms k n ≡ 0
  none_code [] k h = refl
  none_code (m ∷ ms) k h = go (same n m) refl (none_code ms (suc k))
    where
      go : (b : Bool) → same n m ≡ b → (among ms n ≡ false → code_from ms (suc k) n ≡ 0) → code_from (m ∷ ms) k n ≡ 0
      go true e r = absurd (true≢false (rw e at h))
      go false e r = rw e (r (rw e at h))

  -- none of those numbered from 7 on is kept once
  beyond : (ms : List (List ℕ)) (k : ℕ) → 6 ≤ k → once_code (code_from ms (suc k) n) ≡ false
  beyond [] k h = refl
  beyond (m ∷ ms) k h = go (same n m) refl (beyond ms (suc k) (omega arith))
    where
      go : (b : Bool) → same n m ≡ b → once_code (code_from ms (suc (suc k)) n) ≡ false
          → once_code (code_from (m ∷ ms) (suc k) n) ≡ false
      go true e r = rw (e, le-leb 1 (suc k) (omega arith), lt-leb (suc k) 6 (omega arith))
      go false e r = rw e r

  -- where j more have a number up to 6, those j are
  once_among : (ms : List (List ℕ)) (j k : ℕ) → k + j ≡ 6 → once_code (code_from ms (suc k) n) ≡ among (take j ms) n
  once_among [] zero k h = refl
  once_among [] (suc j) k h = refl
  once_among (m ∷ ms) zero k h = beyond (m ∷ ms) k (omega arith)
  once_among (m ∷ ms) (suc j) k h = go (same n m) refl (once_among ms j (suc k) (omega arith))
    where
      go : (b : Bool) → same n m ≡ b → once_code (code_from ms (suc (suc k)) n) ≡ among (take j ms) n
          → once_code (code_from (m ∷ ms) (suc k) n) ≡ among (take (suc j) (m ∷ ms)) n
      go true e r = rw (e, le-leb 1 (suc k) (omega arith), le-leb (suc k) 6 (omega arith))
      go false e r = rw e r

  -- the code c is that of a name in the list, and the name is n
  record Found (ms : List (List ℕ)) (k c : ℕ) : Type 0 where
    above : k < c
    within : c ≤ k + length ms
    named : n ≡ get_or ms (c - suc k) []

  later : {m : List ℕ} {ms : List (List ℕ)} {k c : ℕ} → Found ms (suc k) c → Found (m ∷ ms) k c
  later {m} {ms} {k} {c} f =
      let place : c - suc k ≡ suc (c - suc (suc k)) = omega (arith, f.above) in
      record { above = omega (arith, f.above); within = omega (arith, f.within); named = rw place f.named }

  found : (ms : List (List ℕ)) (k : ℕ) → (code_from ms (suc k) n ≡ 0 → ⊥) → Found ms k (code_from ms (suc k) n)
  found [] k h = absurd (h refl)
  found (m ∷ ms) k h = go (same n m) refl (found ms (suc k))
    where
      go : (b : Bool) → same n m ≡ b → ((code_from ms (suc (suc k)) n ≡ 0 → ⊥) → Found ms (suc k) (code_from ms (suc (suc k)) n))
          → Found (m ∷ ms) k (code_from (m ∷ ms) (suc k) n)
      go true e f = rw e (record { above = omega arith; within = omega arith; named = rw sub_self (same_sound n m e) })
      go false e f = rw e (later (f (λ q. h (rw e q))))

pub once_six : (n : List ℕ) → is_once n ≡ among (take 6 known_names) n
unfolding is_once code_of
once_six n = once_among n known_names 6 0 refl

pub code_bound : (n : List ℕ) → code_of n ≤ length known_names
unfolding code_of
code_bound n = go (eqb (code_of n) 0) refl
  where
    go : (b : Bool) → eqb (code_of n) 0 ≡ b → code_of n ≤ length known_names
    go true e = omega (arith, eqb-true (code_of n) 0 e)
    go false e = (found n known_names 0 (eqb-false (code_of n) 0 e)).within

pub same_code : (n m : List ℕ) → code_of n ≡ code_of m → (code_of n ≡ 0 → ⊥) → n ≡ m
unfolding code_of
same_code n m e h =
    (found n known_names 0 h).named ∙ ap (λ (c : ℕ). get_or known_names (c - 1) []) e
    ∙ sym (found m known_names 0 (λ q. h (e ∙ q))).named

-- names of one code that is not 0 are the same, and names of two codes are not
pub code_same : (m n : List ℕ) → (code_of m ≡ 0 → ⊥) → code_of m ≡ code_of n → same m n ≡ true
code_same m n h e = rw (same_code m n e h) (same_refl n)

pub code_other : (m n : List ℕ) → (code_of m ≡ code_of n → ⊥) → same m n ≡ false
code_other m n h = same_false m n (λ q. h (ap code_of q))

pub codes : Codes
unfolding code_of
codes =
    record {
      known = λ n h. ((found n known_names 0 h).within, (found n known_names 0 h).named);
      other = λ n h. none_code n known_names 1 h;
      rel = refl;
      anchor = refl;
      media = refl;
      title = refl;
      title* = refl;
      type = refl;
      hreflang = refl;
      rev = refl;
    }
