-- A number is an edition's or none's, and an outcome in an edition follows from the outcomes in each.
use Prim.Native.Nat.{ℕ, zero, suc}
use native.Mathlib.Omega.{arith}
use mathlib.Core.Path.{◌≡◌, refl, sym, subst, ◌∙◌}
use mathlib.Core.Logic.{◌⊎◌, inl, inr}
use Rattle.octets.specs.Editions.{number_of, NoEdition}
use Rattle.octets.specs.declared.editions.Edition.{Edition}
use Rattle.octets.specs.declared.editions.Edition.TheVariants.{Rfc8288, Rfc5988}
use Rattle.octets.proofs.Further.{one_edition}
use Rattle.outcomes.specs.Number.{unknown_edition_number}
use Rattle.outcomes.specs.InEdition.{InEdition, unknown, known}
use Rattle.outcomes.specs.Laws.{Settled}

pub edition_or_none : (n : ℕ) → ((e : Edition) × (number_of e ≡ n)) ⊎ NoEdition n
edition_or_none zero = inl (Rfc8288, refl)
edition_or_none (suc zero) = inl (Rfc5988, refl)
edition_or_none (suc (suc n)) = inr none
  where
    none : NoEdition (suc (suc n))
    none Rfc8288 q = omega (arith, q)
    none Rfc5988 q = omega (arith, q)

module _ {A : Type 0} {n : ℕ} {refusal : ℕ → A} {Out : Edition → A → Type 0} where
  -- asked with an edition's number, the outcome is that of the edition
  pub in_known : {e : Edition} {o : A} → number_of e ≡ n → InEdition n refusal Out o → Out e o
  in_known {e} q (unknown z) = absurd (z e q)
  in_known {e} {o} q (known {e = d} r x) = subst (λ k. Out k o) (one_edition d e (r ∙ sym q)) x

  pub in_unknown : {o : A} → NoEdition n → InEdition n refusal Out o → o ≡ refusal unknown_edition_number
  in_unknown z (unknown _) = refl
  in_unknown z (known {e = e} q x) = absurd (z e q)

  -- what holds of the refusal with 10 and of every outcome in an edition
  pub in_any : (P : A → Type 0) → P (refusal unknown_edition_number) → ((e : Edition) (o : A) → Out e o → P o)
      → (o : A) → InEdition n refusal Out o → P o
  in_any P z f _ (unknown _) = z
  in_any P z f o (known {e = e} q x) = f e o x

  pub edition_settled : ((e : Edition) → Settled (Out e)) → Settled (InEdition n refusal Out)
  edition_settled s = go (edition_or_none n)
    where
      go : ((e : Edition) × (number_of e ≡ n)) ⊎ NoEdition n → Settled (InEdition n refusal Out)
      go (inl (e, q)) = ((s e).0, known q (s e).1, λ p d. (s e).2 p (in_known q d))
      go (inr z) = (refusal unknown_edition_number, unknown z, λ p d. in_unknown z d)

-- an outcome told by the number alone becomes that of an entry
pub in_mapped : {A B : Type 0} {n : ℕ} {refusal : ℕ → A} {refuses : ℕ → B} {R : Edition → A → Type 0} {Out : Edition → B → Type 0}
    (f : A → B) → refuses unknown_edition_number ≡ f (refusal unknown_edition_number) → ((e : Edition) (a : A) → R e a → Out e (f a))
    → {a : A} → InEdition n refusal R a → InEdition n refuses Out (f a)
in_mapped {n = n} {refuses = refuses} {Out = Out} f z g (unknown y) = subst (InEdition n refuses Out) z (unknown y)
in_mapped f z g (known {e = e} q x) = known q (g e _ x)
