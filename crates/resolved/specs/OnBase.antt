-- A text that may be a reference, on a base that is right.
use Rattle.std.specs.Prelude.{ℕ, ◌≡◌, List}
use Rattle.octets.specs.Editions.{number_of}
use Rattle.octets.specs.declared.editions.Edition.{Edition}
use Rattle.references.specs.AppendixA.{IsReference}
use Rattle.resolution.specs.Resolve.{resolved}
use Rattle.outcomes.specs.Number.{too_long_number, bad_reference_number}
use Rattle.outcomes.specs.Copy.{CopyOut, untouched}
use Rattle.outcomes.specs.InEdition.{InEdition}
use Rattle.outcomes.specs.Resolve.{Fitted}
use Rattle.answers.specs.Refusal.{refusal_number}
use Rattle.answers.specs.declared.Refusal.{Refusal}

-- the text w, and a buffer that holds `out`
pub data OnBase (base w out : List ℕ) : CopyOut → Type 0 where
  wrong : (IsReference w → ⊥) → OnBase base w out (untouched out bad_reference_number)
  right : {o : CopyOut} → IsReference w → Fitted out (resolved base w) o → OnBase base w out o

-- too long, asked with the number n of an edition
abbrev pub RefusedLong : ℕ → Refusal → Type 0
RefusedLong n w = InEdition n (λ k. k) (λ e k. k ≡ too_long_number) (refusal_number w)
