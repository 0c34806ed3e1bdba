-- Whether a table may be used.
use Rattle.std.specs.Prelude.{ℕ, ◌≡◌, Result, Ok, Err, ⊤}
use Rattle.answers.specs.Refusal.{refusal_number}
use Rattle.answers.specs.declared.Refusal.{Refusal}
use Rattle.octets.specs.Editions.{number_of}
use Rattle.octets.specs.declared.editions.Edition.{Edition}
use Rattle.tables.specs.Table.{Table}
use Rattle.outcomes.specs.InEdition.{InEdition}
use Rattle.outcomes.specs.Usable as outcome

-- in an edition
abbrev pub StateIn : Edition → Table → Result ⊤ Refusal → Type 0
StateIn e t (Ok _) = outcome.Usable e t
StateIn e t (Err w) = outcome.Refused e t (refusal_number w)

-- the table may be used in the edition whose number is n
pub record UsableIn (n : ℕ) (t : Table) : Type 0 where
  pub edition : Edition
  pub numbered : number_of edition ≡ n
  pub usable : outcome.Usable edition t

-- asked with the number n of an edition
abbrev pub IsState : ℕ → Table → Result ⊤ Refusal → Type 0
IsState n t (Ok _) = UsableIn n t
IsState n t (Err w) = InEdition n (λ k. k) (λ e. outcome.Refused e t) (refusal_number w)
