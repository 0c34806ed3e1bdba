-- A walk's answer.
use Rattle.std.specs.Prelude.{ℕ, Result, Ok, Err}
use Rattle.outcomes.specs.Number.{done}
use Rattle.answers.specs.Refusal.{refusal_number}
use Rattle.answers.specs.declared.Refusal.{Refusal}
use Rattle.answers.specs.declared.walk_answer.End.{End}
use Rattle.answers.specs.declared.walk_answer.End.TheVariants.{Arrived, NoLink, NoTarget, NoPack}
use Rattle.answers.specs.declared.walk_answer.Ended.{Ended}
use Rattle.answers.specs.declared.walk_answer.WalkNumbers.{WalkNumbers}

-- the numbers of the ends; 0 is none of them
abbrev pub end_of : End → ℕ
end_of Arrived = 1
end_of NoLink = 2
end_of NoTarget = 3
end_of NoPack = 4

abbrev pub walk_numbers : Result Ended Refusal → WalkNumbers
walk_numbers (Ok e) = record { number = done; end = end_of e.end; pack = e.pack.0; steps = e.steps }
walk_numbers (Err w) = record { number = refusal_number w; end = 0; pack = 0; steps = 0 }
