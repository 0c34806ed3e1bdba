-- Reading's answer.
use Rattle.std.specs.Prelude.{ℕ, List, Result, Ok, Err}
use Rattle.kinds.specs.declared.Counts.{Counts}
use Rattle.outcomes.specs.Number.{done, malformed_header_number}
use Rattle.outcomes.specs.Read.{ReadOut}
use Rattle.answers.specs.Refusal.{refusal_number}
use Rattle.answers.specs.declared.read_answer.ReadError.{ReadError}
use Rattle.answers.specs.declared.read_answer.ReadError.TheVariants.{Malformed, Refused}
use Rattle.answers.specs.declared.read_answer.ReadNumbers.{ReadNumbers}

abbrev pub read_numbers : Result Counts ReadError → ReadNumbers
read_numbers (Ok n) = record { number = done; place = 0; links = n.links; params = n.params }
read_numbers (Err (Malformed p)) = record { number = malformed_header_number; place = p.0; links = 0; params = 0 }
read_numbers (Err (Refused w)) = record { number = refusal_number w; place = 0; links = 0; params = 0 }

-- with what both tables hold afterwards
abbrev pub read_out : ReadNumbers → List ℕ → List ℕ → ReadOut
read_out r L P =
    record { number = r.number; place = r.place; links = r.links; params = r.params; link_slots = L; param_slots = P }
