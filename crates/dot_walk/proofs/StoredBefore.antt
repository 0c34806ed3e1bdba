-- Stores before others. Assumes nothing.
use Prim.Native.Nat.{ℕ, suc, ◌+◌, ◌<◌}
use native.Mathlib.Nat.{add-zero}
use native.Mathlib.Omega.{arith}
use mathlib.Core.Path.{◌≡◌, refl, ap, ◌∙◌}
use mathlib.Core.Bool.{Bool, true, false, cond, ◌||◌}
use mathlib.Core.List.{List, [], ◌∷◌, ◌++◌, append-nil}
use lib.Dec.{eqb}
use borrow.Author.Tests.{eqb-true}
use lib.ListN.{length, set}
use lib.Seq.{sets, set_comm}
use Rattle.resolution.specs.Walking.{held, slash_gain, gain, holds, text}
use Rattle.resolution.specs.declared.Walk.{Walk}
use Rattle.bare.specs.Bare.{bare}
use Rattle.dot_walk.specs.Put.{gained}

set_before : (l : List ℕ) (i k x : ℕ) (ys : List ℕ) → i < k → set (sets l k ys) i x ≡ sets (set l i x) k ys
set_before l i k x [] h = refl
set_before l i k x (y ∷ ys) h =
    set_before (set l k y) i (suc k) x ys (omega arith)
    ∙ ap (λ (m : List ℕ). sets m (suc k) ys) (set_comm l k i y x (λ e. omega (arith, h, e)))

-- xs stored before ys
pub sets_before : (l : List ℕ) (i k : ℕ) (xs ys : List ℕ) → k ≡ i + length xs → sets (sets l k ys) i xs ≡ sets l i (xs ++ ys)
sets_before l i k [] ys e = ap (λ (m : ℕ). sets l m ys) (e ∙ add-zero i)
sets_before l i k (x ∷ xs) ys e =
    ap (λ (m : List ℕ). sets m (suc i) xs) (set_before l i k x ys (omega (arith, e)))
    ∙ sets_before (set l i x) (suc i) k xs ys (omega (arith, e))

-- what an octet adds, told by its length
one_of : (b : Bool) (c : ℕ) → cond {A = List ℕ} b (c ∷ []) [] ≡ gained (length (cond {A = List ℕ} b (c ∷ []) [])) c
one_of true c = refl
one_of false c = refl

with_held : (c k : ℕ) → c ∷ held k ≡ gained (length (c ∷ held k)) c
with_held c k = go (eqb k 1) (eqb k 2)
  where
    go : (p q : Bool) → let h = cond {A = List ℕ} p (46 ∷ []) (cond {A = List ℕ} q (46 ∷ 46 ∷ []) []) in c ∷ h ≡ gained (length (c ∷ h)) c
    go true q = refl
    go false true = refl
    go false false = refl

gain_gained : (b : Walk) (c : ℕ) → gain b c ≡ gained (length (gain b c)) c
gain_gained b c = go (eqb c 47) (holds b c) (eqb b.pending 0) (λ e. eqb-true c 47 e)
  where
    go : (p q r : Bool) → (p ≡ true → c ≡ 47)
        → let g = cond {A = List ℕ} p (slash_gain b) (cond {A = List ℕ} q [] (cond {A = List ℕ} r (c ∷ held b.kind) [])) in
        g ≡ gained (length g) c
    go true q r e = rw (e refl) (one_of (cond (eqb b.kind 1 || eqb b.kind 2) (eqb b.kept 0) (eqb b.pending 0)) 47)
    go false true r e = refl
    go false false true e = with_held c b.kind
    go false false false e = refl

-- one octet by itself, or a backslash
pub added : (b : Walk) (c : ℕ) → text (bare (c ∷ [])) b ≡ gained (length (text (bare (c ∷ [])) b)) c
added b c = go (eqb c 92)
  where
    go : (p : Bool) → let w = cond {A = List ℕ} p [] (c ∷ []) in text w b ≡ gained (length (text w b)) c
    go true = refl
    go false = rw (append-nil (gain b c)) (gain_gained b c)

-- ---- the stores one by one

module _ (l : List ℕ) (i c : ℕ) where
  pub stored_one : (n : ℕ) → n ≡ 1 → set l i c ≡ sets l i (gained n c)
  stored_one n e = rw e refl

  pub stored_two : (n j : ℕ) → n ≡ 2 → j ≡ suc i → set (set l i c) j 46 ≡ sets l i (gained n c)
  stored_two n j e f = rw (e, f) refl

  pub stored_three : (n j k : ℕ) → n ≡ 3 → j ≡ suc i → k ≡ suc (suc i) → set (set (set l i c) j 46) k 46 ≡ sets l i (gained n c)
  stored_three n j k e f g = rw (e, f, g) refl
