-- The numbers that tell where a link's context lies.
use Rattle.std.specs.Prelude.{ℕ, ◌≡◌, cond, List, eqb}
use Rattle.tables.specs.Table.{Table}
use Rattle.tables.specs.Good.{InText}
use Rattle.outcomes.specs.Context.{of_text, ContextOut, Context}
use Rattle.answers.specs.Context.{source_number, context_numbers}
use Rattle.answers.specs.declared.context_answer.ContextNumbers.{ContextNumbers}

-- what the number of a source stands for; a refusal's part is the base's first zero octets
abbrev pub source_octets : List ℕ → List ℕ → ℕ → List ℕ
source_octets text base n = cond (eqb n (source_number of_text)) text base

-- asked with the number n of an edition, the numbers tell the outcome, of which there is one, and the part lies in its source
pub record ContextTold (n : ℕ) (t : Table) (base : List ℕ) (i : ℕ) (r : ContextNumbers) : Type 0 where
  pub out : ContextOut
  pub outcome : Context n t base i out
  pub numbers : r ≡ context_numbers out
  pub within : InText (source_octets t.text base r.source) r.start r.end
