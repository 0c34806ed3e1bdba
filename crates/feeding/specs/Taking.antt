-- When a part is judged and stored.
use Rattle.std.specs.Prelude.{ℕ, ◌+◌, ◌≤◌, List, length}
use Rattle.outcomes.specs.Number.{limit}
use Rattle.outcomes.specs.Feeding.{Feeding, start_in}
use Rattle.phases.specs.declared.spot.Spot.{Spot}
use Rattle.phases.specs.Spots.{spot}

-- the buffer is large enough, the total stays within the limit, and no fault is remembered
pub record Takes (st : Feeding) (part buffer : List ℕ) : Type 0 where
  pub large : limit ≤ length buffer
  pub short : st.total + length part ≤ limit
  pub none_stuck : st.total ≤ st.place

-- where reading stands, by what the state remembers
abbrev pub held_spot : Feeding → Spot
held_spot st = spot st.phase (start_in st) st.judged
