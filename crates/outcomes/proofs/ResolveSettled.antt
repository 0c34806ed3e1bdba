-- Resolving a reference has one outcome.
use Prim.Native.Nat.{ℕ, ◌≤◌, ◌<◌}
use native.Mathlib.Omega.{arith}
use mathlib.Core.Path.{◌≡◌, refl}
use mathlib.Core.Logic.{◌⊎◌, inl, inr, ⊎_elim}
use mathlib.Core.List.{List}
use lib.ListN.{length}
use Rattle.references.specs.AppendixA.{uri_reference, URI, IsReference}
use Rattle.resolution.specs.Resolve.{resolved}
use Rattle.outcomes.specs.Number.{limit, too_long_number, bad_base_number, bad_reference_number}
use Rattle.outcomes.specs.Copy.{CopyOut, untouched}
use Rattle.outcomes.specs.Resolve as outcome
use Rattle.outcomes.specs.Resolve.{Fitted, Resolve}
use Rattle.outcomes.specs.Laws.{Settled, ResolveSettled}
use Rattle.outcomes.proofs.Cases.{Branch, this, that, Order, Derived, Settles, le_or_lt}
use Rattle.outcomes.proofs.Cases.{only, branch, order, derived, as_settled, settled}
use Rattle.outcomes.proofs.DecodeSettled.{Fits}

-- a result
pub fitted_settled : (out v : List ℕ) → Settled (Fitted out v)
fitted_settled out v =
    settled cases
    (order (λ h. order (λ l. only (outcome.fits h l)) (λ l. only (outcome.no_room h l))) (λ l. only (outcome.too_long l)))
  where
    cases : (q : CopyOut) → Fitted out v q → Order (length v) limit (Fits out v) (λ q. q ≡ untouched out too_long_number) q
    cases _ (outcome.too_long l) = that l refl
    cases _ (outcome.no_room h l) = this h (that l refl)
    cases _ (outcome.fits h l) = this h (this l refl)

-- what may be no reference, on a base that is a URI
abbrev pub OnBase : List ℕ → List ℕ → List ℕ → CopyOut → Type 0
OnBase w base out = Derived uri_reference w (Fitted out (resolved base w)) (λ q. q ≡ untouched out bad_reference_number)

pub on_base : {Out : CopyOut → Type 0} (w base out : List ℕ)
    → ((o : CopyOut) → IsReference w → Fitted out (resolved base w) o → Out o)
    → ((IsReference w → ⊥) → Out (untouched out bad_reference_number)) → Settles Out (OnBase w base out)
on_base w base out f g = derived uri_reference w (λ r. as_settled (λ o. f o r) (fitted_settled out (resolved base w))) (λ n. only (g n))

long_or_short : (m n : ℕ) → ((limit < m) ⊎ (limit < n)) ⊎ ((m ≤ limit) × (n ≤ limit))
long_or_short m n = go (le_or_lt m limit) (le_or_lt n limit)
  where
    go : (m ≤ limit) ⊎ (limit < m) → (n ≤ limit) ⊎ (limit < n) → ((limit < m) ⊎ (limit < n)) ⊎ ((m ≤ limit) × (n ≤ limit))
    go (inr l) k = inl (inl l)
    go (inl h) (inr l) = inl (inr l)
    go (inl h) (inl k) = inr (h, k)

module _ (w base out : List ℕ) where
  abbrev Cases : CopyOut → Type 0
  Cases =
      Branch ((limit < length w) ⊎ (limit < length base)) (λ l q. q ≡ untouched out too_long_number)
      ((length w ≤ limit) × (length base ≤ limit)) (Derived URI base (OnBase w base out) (λ q. q ≡ untouched out bad_base_number))

  cases : (q : CopyOut) → Resolve w base out q → Cases q
  cases _ (outcome.too_long l) = this l refl
  cases _ (outcome.bad_base h k n) = that (h, k) (that n refl)
  cases _ (outcome.bad_reference h k u n) = that (h, k) (this u (that n refl))
  cases _ (outcome.resolves h k u r f) = that (h, k) (this u (this r f))

  resolves : Settled (Resolve w base out)
  resolves =
      settled cases
      (branch (long_or_short (length w) (length base))
      (λ l s. ⊎_elim (λ k. omega (arith, s.0, k)) (λ k. omega (arith, s.1, k)) l)
      (λ l k q e. e)
      (λ l. only (outcome.too_long l))
      (λ s. derived URI base
      (λ u. on_base w base out (λ o r f. outcome.resolves s.0 s.1 u r f) (λ n. outcome.bad_reference s.0 s.1 u n))
      (λ n. only (outcome.bad_base s.0 s.1 n))))

pub resolve_settled : ResolveSettled
resolve_settled w base out = resolves w base out
