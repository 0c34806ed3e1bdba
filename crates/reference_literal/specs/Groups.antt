-- Where in an IPv6 address a state stands: z says whether `::` was read, g groups are finished, d digits of the next are read, and t is
-- how its number may go on.
use Rattle.std.specs.Prelude.{ℕ, ◌≤◌}

-- as large as they may be
pub record Grouped (z g d t : ℕ) : Type 0 where
  pub sides : z ≤ 1
  pub groups : g ≤ 7
  pub digits : d ≤ 4
  pub number : t ≤ 5
