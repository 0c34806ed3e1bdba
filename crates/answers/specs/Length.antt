-- The answer of an entry that fills an output buffer.
use Rattle.std.specs.Prelude.{ℕ, List, Result, Ok, Err}
use Rattle.outcomes.specs.Number.{done}
use Rattle.outcomes.specs.Copy.{CopyOut}
use Rattle.answers.specs.Refusal.{refusal_number}
use Rattle.answers.specs.declared.Refusal.{Refusal}
use Rattle.answers.specs.declared.length_answer.LengthNumbers.{LengthNumbers}

abbrev pub length_numbers : Result ℕ Refusal → LengthNumbers
length_numbers (Ok n) = record { number = done; length = n }
length_numbers (Err w) = record { number = refusal_number w; length = 0 }

-- with what the output buffer holds afterwards
abbrev pub length_out : LengthNumbers → List ℕ → CopyOut
length_out r out = record { number = r.number; count = r.length; buffer = out }
