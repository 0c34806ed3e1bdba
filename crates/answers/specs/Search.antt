-- A search's answer.
use Rattle.std.specs.Prelude.{Result, Ok, Err}
use Rattle.kinds.specs.declared.LinkNumber.{LinkNumber}
use Rattle.outcomes.specs.Number.{done}
use Rattle.outcomes.specs.Search.{SearchOut}
use Rattle.answers.specs.Refusal.{refusal_number}
use Rattle.answers.specs.declared.Refusal.{Refusal}
use Rattle.answers.specs.declared.search_answer.SearchNumbers.{SearchNumbers}

abbrev pub search_numbers : Result LinkNumber Refusal → SearchNumbers
search_numbers (Ok n) = record { number = done; link = n.0 }
search_numbers (Err w) = record { number = refusal_number w; link = 0 }

abbrev pub search_out : SearchNumbers → SearchOut
search_out r = record { number = r.number; link = r.link }
