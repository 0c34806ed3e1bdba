-- The first number below n of which a test holds, or none.
use Prim.Native.Nat.{ℕ, zero, suc, ◌≤◌, ◌<◌}
use native.Mathlib.Nat.{eq-or-lt_of_le, le_of_suc-le-suc}
use native.Mathlib.Omega.{arith}
use mathlib.Core.Path.{◌≡◌, refl, sym, ◌∙◌}
use mathlib.Core.Bool.{Bool, true, false, true≢false}
use mathlib.Core.Logic.{◌⊎◌, inl, inr, ⊎_elim}
use Rattle.outcomes.proofs.Cases.{le_or_lt}

module _ (f : ℕ → Bool) (n : ℕ) where
  pub record First (i : ℕ) : Type 0 where
    pub inside : i < n
    pub is : f i ≡ true
    pub before : (j : ℕ) → j < i → f j ≡ false

  abbrev pub None : Type 0
  None = (i : ℕ) → i < n → f i ≡ false

pub first_or_none : (f : ℕ → Bool) (n : ℕ) → ((i : ℕ) × First f n i) ⊎ None f n
first_or_none f zero = inr (λ i l. absurd (omega arith))
first_or_none f (suc n) = go (first_or_none f n) (f n) refl
  where
    go : ((i : ℕ) × First f n i) ⊎ None f n → (b : Bool) → f n ≡ b → ((i : ℕ) × First f (suc n) i) ⊎ None f (suc n)
    go (inl (i, p)) b e = inl (i, record { inside = omega (arith, p.inside); is = p.is; before = p.before })
    go (inr none) true e = inl (n, record { inside = omega arith; is = e; before = none })
    go (inr none) false e = inr (λ i l. ⊎_elim (λ q. rw q e) (none i) (eq-or-lt_of_le (le_of_suc-le-suc l)))

module _ {f : ℕ → Bool} {n : ℕ} where
  pub first_not_none : {i : ℕ} → First f n i → None f n → ⊥
  first_not_none {i} p none = true≢false (sym p.is ∙ none i p.inside)

  not_later : {i j : ℕ} → First f n i → First f n j → i ≤ j
  not_later {i} {j} p r = ⊎_elim (λ h. h) (λ l. absurd (true≢false (sym r.is ∙ p.before j l))) (le_or_lt i j)

  pub one_first : {i j : ℕ} → First f n i → First f n j → i ≡ j
  one_first p r = omega (arith, not_later p r, not_later r p)
