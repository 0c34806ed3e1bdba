-- From the state of a table to the outcome of an entry over it.
use Prim.Native.Nat.{ℕ}
use mathlib.Core.Path.{refl}
use Rattle.octets.specs.declared.editions.Edition.TheVariants.{Rfc5988}
use Rattle.tables.specs.Table.{Table}
use Rattle.outcomes.specs.InEdition.{InEdition, known}
use Rattle.outcomes.specs.Usable.{Refused, Usable, OverTable, refused, usable}
use Rattle.outcomes.proofs.InEdition.{in_mapped}
use Rattle.outcomes.proofs.Usable.{usable_older}
use Rattle.table_check.specs.State.{UsableIn}

module _ {A : Type 0} {n : ℕ} {t : Table} {refusal : ℕ → A} {Out : A → Type 0} where
  -- a table that is refused, or a number that is no edition's, is every entry's refusal
  pub state_refused : {k : ℕ} → InEdition n (λ j. j) (λ e. Refused e t) k → OverTable n t refusal Out (refusal k)
  state_refused = in_mapped refusal refl (λ e k r. refused r)

  -- over a table that may be used, the entry's outcome is told without the edition
  pub state_usable : {o : A} → UsableIn n t → Out o → OverTable n t refusal Out o
  state_usable u x = known {e = u.edition} u.numbered (usable u.usable x)

-- and what is good in some edition is good in the older one
pub in_older : {n : ℕ} {t : Table} → UsableIn n t → Usable Rfc5988 t
in_older u = usable_older u.usable
