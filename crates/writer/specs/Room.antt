-- Whether a form goes into a buffer.
use Rattle.std.specs.Prelude.{ℕ, ◌≤◌, ◌<◌, Result, Ok, Err, ⊤}
use Rattle.outcomes.specs.Number.{limit}
use Rattle.answers.specs.declared.Refusal.{Refusal}
use Rattle.answers.specs.declared.Refusal.TheVariants.{TooLong, NoOutputRoom}

-- why a form of n octets doesn't fit the limit or a buffer of `room` octets
pub data Over (n room : ℕ) : Refusal → Type 0 where
  over_limit : limit < n → Over n room TooLong
  over_room : n ≤ limit → room < n → Over n room NoOutputRoom

-- whether it fits
abbrev pub IsFit : ℕ → ℕ → Result ⊤ Refusal → Type 0
IsFit n room (Ok _) = (n ≤ limit) × (n ≤ room)
IsFit n room (Err w) = Over n room w
