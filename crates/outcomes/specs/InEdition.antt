-- What every entry over headers or tables asks before all else: that the number it is given is an edition's.
use Rattle.std.specs.Prelude.{ℕ, ◌≡◌}
use Rattle.octets.specs.Editions.{number_of, NoEdition}
use Rattle.octets.specs.declared.editions.Edition.{Edition}
use Rattle.outcomes.specs.Number.{unknown_edition_number}

-- An entry asked with the number n. `refusal` tells what it answers and leaves when it refuses with a number, and `Out e` its outcome
-- in the edition e.
module _ {A : Type 0} (n : ℕ) (refusal : ℕ → A) (Out : Edition → A → Type 0) where
  pub data InEdition : A → Type 0 where
    unknown : NoEdition n → InEdition (refusal unknown_edition_number)
    known : {e : Edition} {o : A} → number_of e ≡ n → Out e o → InEdition o
