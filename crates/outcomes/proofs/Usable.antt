-- A table is usable or refused in an edition, and not both, and refused with one number only.
use Prim.Native.Nat.{ℕ, ◌≤◌, ◌<◌}
use native.Mathlib.Omega.{arith}
use mathlib.Core.Path.{◌≡◌, refl, ap}
use mathlib.Core.Logic.{◌⊎◌, inl, inr}
use lib.ListN.{length}
use Rattle.octets.specs.Editions.{further}
use Rattle.octets.specs.declared.editions.Edition.{Edition}
use Rattle.octets.specs.declared.editions.Edition.TheVariants.{Rfc5988}
use Rattle.tables.specs.Table.{Table}
use Rattle.tables.specs.Good.{Good}
use Rattle.tables.proofs.Decide.{good_decided}
use Rattle.tables.proofs.GoodAlike.{good_alike}
use Rattle.outcomes.specs.Number.{limit, done, unknown_edition_number}
use Rattle.outcomes.specs.Usable.{Refused, long_text, not_good, Usable, TableIn, refused, usable, OverTable}
use Rattle.outcomes.specs.Laws.{Settled}
use Rattle.outcomes.proofs.Cases.{le_or_lt}
use Rattle.outcomes.proofs.InEdition.{in_any, edition_settled}

pub usable_or_refused : (e : Edition) (t : Table) → Usable e t ⊎ ((n : ℕ) × Refused e t n)
usable_or_refused e t = go (le_or_lt (length t.text) limit) (good_decided (further e) t)
  where
    go : (length t.text ≤ limit) ⊎ (limit < length t.text) → Dec (Good (further e) t)
        → Usable e t ⊎ ((n : ℕ) × Refused e t n)
    go (inr l) d = inr (_, long_text l)
    go (inl h) (yes g) = inl (record { short = h; good = g })
    go (inl h) (no g) = inr (_, not_good h g)

-- what may be used in some edition may be used in the older one
pub usable_older : {e : Edition} {t : Table} → Usable e t → Usable Rfc5988 t
usable_older {e} {t} u = record { short = u.short; good = good_alike e t u.good }

module _ {e : Edition} {t : Table} where
  one_refusal : {n m : ℕ} → Refused e t n → Refused e t m → n ≡ m
  one_refusal (long_text l) (long_text k) = refl
  one_refusal (long_text l) (not_good h g) = absurd (omega arith)
  one_refusal (not_good h g) (long_text l) = absurd (omega arith)
  one_refusal (not_good h g) (not_good k f) = refl

  not_both : {n : ℕ} → Usable e t → Refused e t n → ⊥
  not_both u (long_text l) = omega arith
  not_both u (not_good h g) = g u.good

  -- a table that is refused is refused with no 0
  no_zero : {n : ℕ} → Refused e t n → n ≡ done → ⊥
  no_zero (long_text l) q = omega arith
  no_zero (not_good s g) q = omega arith

module _ {A : Type 0} {t : Table} {refusal : ℕ → A} {Out : A → Type 0} where
  pub table_settled : Settled Out → (e : Edition) → Settled (TableIn t refusal Out e)
  table_settled s e = go (usable_or_refused e t)
    where
      go : Usable e t ⊎ ((k : ℕ) × Refused e t k) → Settled (TableIn t refusal Out e)
      go (inl u) = (s.0, usable u s.1, one)
        where
          one : (q : A) → TableIn t refusal Out e q → q ≡ s.0
          one _ (refused r) = absurd (not_both u r)
          one q (usable v x) = s.2 q x
      go (inr (k, r)) = (refusal k, refused r, one)
        where
          one : (q : A) → TableIn t refusal Out e q → q ≡ refusal k
          one _ (refused d) = ap refusal (one_refusal d r)
          one q (usable u x) = absurd (not_both u r)

  pub over_settled : {n : ℕ} → Settled Out → Settled (OverTable n t refusal Out)
  over_settled s = edition_settled (table_settled s)

  -- what holds of every refusal, and of every outcome of a table that may be used
  pub table_any : (P : A → Type 0) → ((k : ℕ) → (k ≡ done → ⊥) → P (refusal k)) → ((o : A) → Out o → P o)
      → (e : Edition) (o : A) → TableIn t refusal Out e o → P o
  table_any P r f e _ (refused {k = k} d) = r k (no_zero d)
  table_any P r f e o (usable u x) = f o x

  pub over_any : {n : ℕ} (P : A → Type 0) → ((k : ℕ) → (k ≡ done → ⊥) → P (refusal k)) → ((o : A) → Out o → P o)
      → (o : A) → OverTable n t refusal Out o → P o
  over_any P r f = in_any P (r unknown_edition_number (λ q. omega (arith, q))) (table_any P r f)
