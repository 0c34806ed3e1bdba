-- A context's answer.
use Rattle.std.specs.Prelude.{ℕ, cond, Result, Ok, Err, eqb}
use Rattle.outcomes.specs.Number.{done}
use Rattle.outcomes.specs.Context.{Source, of_text, of_base, ContextOut, nothing}
use Rattle.answers.specs.Refusal.{refusal_number}
use Rattle.answers.specs.declared.Refusal.{Refusal}
use Rattle.answers.specs.declared.context_answer.Context.{Context}
use Rattle.answers.specs.declared.context_answer.Context.TheVariants.{Anchored, Base}
use Rattle.answers.specs.declared.context_answer.ContextNumbers.{ContextNumbers}

-- the outcome that the answer tells, with the length of the caller's base
abbrev pub context_out : ℕ → Result Context Refusal → ContextOut
context_out n (Ok (Anchored s)) = record { number = done; source = of_text; start = s.from.0; end = s.to.0 }
context_out n (Ok Base) = record { number = done; source = of_base; start = 0; end = n }
context_out n (Err w) = nothing (refusal_number w)

-- 1 is the text and 2 the base
abbrev pub source_number : Source → ℕ
source_number of_text = 1
source_number of_base = 2

-- the numbers of an outcome; a refusal hands nothing back, and has no source
abbrev pub context_numbers : ContextOut → ContextNumbers
context_numbers o =
    record {
      number = o.number;
      source = cond (eqb o.number done) (source_number o.source) 0;
      start = o.start;
      end = o.end;
    }
