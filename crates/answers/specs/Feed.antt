-- A feed's answer, and the state of a feeding.
use Rattle.std.specs.Prelude.{ℕ, List, Result, Ok, Err, ⊤}
use Rattle.outcomes.specs.Number.{done, malformed_header_number}
use Rattle.outcomes.specs.Feed.{FeedOut}
use Rattle.outcomes.specs.Feeding as outcome
use Rattle.answers.specs.Refusal.{refusal_number}
use Rattle.answers.specs.declared.read_answer.ReadError.{ReadError}
use Rattle.answers.specs.declared.read_answer.ReadError.TheVariants.{Malformed, Refused}
use Rattle.answers.specs.declared.feed_answer.Feeding.{Feeding}
use Rattle.answers.specs.declared.feed_answer.FeedAnswer.{FeedAnswer}
use Rattle.answers.specs.declared.feed_answer.FeedNumbers.{FeedNumbers}

abbrev told_numbers : Result ⊤ ReadError → Feeding → FeedNumbers
told_numbers (Ok _) s = record { number = done; place = 0; next = s }
told_numbers (Err (Malformed p)) s = record { number = malformed_header_number; place = p.0; next = s }
told_numbers (Err (Refused w)) s = record { number = refusal_number w; place = 0; next = s }

abbrev pub feed_numbers : FeedAnswer → FeedNumbers
feed_numbers a = told_numbers a.told a.next

-- with what the gathering buffer holds afterwards
abbrev pub feed_out : FeedNumbers → List ℕ → FeedOut
feed_out r buffer = record { number = r.number; place = r.place; buffer = buffer }

-- the state that the outcomes speak of
abbrev pub state_of : Feeding → outcome.Feeding
state_of s =
    record {
      edition = s.edition;
      phase = s.phase;
      total = s.total;
      place = s.place;
      target = s.target;
      judged = s.judged;
    }
