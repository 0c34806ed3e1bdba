-- A walk: steps from pack to pack by one relation, as many as are asked for, or up to the first that can't be taken.
use Rattle.std.specs.Prelude.{ℕ, zero, suc, List, ℤ, pos, negsuc}
use Rattle.octets.specs.Text.{octets}
use Rattle.catalogues.specs.Packs.{Pack}
use Rattle.catalogues.specs.Steps.{End, arrived, Step, to, stop, step_from}

-- how it ended, the last pack, and the steps taken
pub record Ended : Type 0 where
  pub end : End
  pub pack : ℕ
  pub steps : ℕ

-- at pack i, with no step taken from there
abbrev pub ended_at : ℕ → End → Ended
ended_at i e = record { end = e; pack = i; steps = 0 }

abbrev pub one_more_step : Ended → Ended
one_more_step o = record { end = o.end; pack = o.pack; steps = suc o.steps }

-- the step from pack i is this; `on` walks the rest from the pack that it leads to
abbrev pub going_on : ℕ → Step → (ℕ → Ended) → Ended
going_on i (stop e) on = ended_at i e
going_on i (to j) on = one_more_step (on j)

-- n steps from pack i by the relation q: each step taken leaves one fewer to take
unfoldable pub walk : List Pack → List ℕ → ℕ → ℕ → Ended
walk ps q zero i = ended_at i arrived
walk ps q (suc n) i = going_on i (step_from ps q i) (λ j. walk ps q n j)

-- a positive number follows `next` and a negative one `prev`; zero stays, and asks for neither
abbrev pub relation_of : ℤ → List ℕ
relation_of (pos n) = octets "next"
relation_of (negsuc n) = octets "prev"
