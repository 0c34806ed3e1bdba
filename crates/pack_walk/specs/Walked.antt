-- A walk's answer, as the outcome that it tells.
use Rattle.std.specs.Prelude.{ℕ, ◌+◌, ◌≤◌, ◌<◌, ◌≡◌, List, Result, Err}
use Rattle.outcomes.specs.Number.{limit}
use Rattle.catalogues.specs.Packs.{Pack}
use Rattle.catalogues.specs.Walks.{Ended, walk}
use Rattle.catalogues.specs.Outcome.{WalkOut, walked}
use Rattle.answers.specs.declared.Refusal.{Refusal}
use Rattle.answers.specs.declared.Refusal.TheVariants.{NoSuchLink, NoOutputRoom}
use Rattle.answers.specs.Walk.{walk_numbers}
use Rattle.answers.specs.declared.walk_answer.Ended as answer
use Rattle.answers.specs.declared.walk_answer.WalkNumbers.{WalkNumbers}
use Rattle.stepping.specs.Known.{Known}

-- the outcome that the numbers of an answer tell
abbrev pub walk_out : WalkNumbers → WalkOut
walk_out r = record { number = r.number; end = r.end; pack = r.pack; steps = r.steps }

-- behind k steps
abbrev pub behind : ℕ → Ended → Ended
behind k o = record { end = o.end; pack = o.pack; steps = k + o.steps }

-- n steps by the relation q from pack number i, behind k steps, end as the answer tells
abbrev pub WalksOn : List ℕ → List ℕ → ℕ → ℕ → ℕ → List ℕ → ℕ → ℕ → ℕ → Result answer.Ended Refusal → Type 0
WalksOn s X m l p q n i k r =
    (ps : List Pack) → Known s X m l p ps → walk_out (walk_numbers r) ≡ walked (behind k (walk ps q n i))

-- n steps from pack number i over m packs that are known, with w octets for resolving: the start is asked first, and then the room
pub data WalksFrom (s X : List ℕ) (m l p w : ℕ) (q : List ℕ) (n i : ℕ) : Result answer.Ended Refusal → Type 0 where
  no_start : m ≤ i → WalksFrom s X m l p w q n i (Err NoSuchLink)
  no_octets : i < m → w < limit → WalksFrom s X m l p w q n i (Err NoOutputRoom)
  from_start : {r : Result answer.Ended Refusal} → i < m → limit ≤ w → WalksOn s X m l p q n i 0 r → WalksFrom s X m l p w q n i r
