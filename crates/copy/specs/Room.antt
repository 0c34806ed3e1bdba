-- Octets written into a buffer, if there is room for them.
use Rattle.std.specs.Prelude.{ℕ, ◌≤◌, ◌<◌, List, length}
use Rattle.outcomes.specs.Number.{no_output_room_number}
use Rattle.outcomes.specs.Copy.{CopyOut, untouched, holding}

-- the octets v, and a buffer that holds `out`
pub data InRoom (out v : List ℕ) : CopyOut → Type 0 where
  short : length out < length v → InRoom out v (untouched out no_output_room_number)
  enough : length v ≤ length out → InRoom out v (holding out v)
