-- Decoding one extended value as it stands: no edition is asked for, and no backslashes come out. The numbers come in the order 1, 11, 7.
use Rattle.std.specs.Prelude.{ℕ, ◌≤◌, ◌<◌, List, length}
use Rattle.extended.specs.Value.{Extended, Wrong}
use Rattle.outcomes.specs.Number.{limit, too_long_number, no_output_room_number, bad_extended_number}
use Rattle.outcomes.specs.Copy.{CopyOut, untouched, holding}

-- the value w, and a buffer that holds `out`
module _ (w out : List ℕ) where
  pub data Decode : CopyOut → Type 0 where
    too_long : limit < length w → Decode (untouched out too_long_number)
    wrong : length w ≤ limit → Wrong w → Decode (untouched out bad_extended_number)
    no_room : {v : List ℕ} → length w ≤ limit → Extended w v → length out < length v → Decode (untouched out no_output_room_number)
    gives : {v : List ℕ} → length w ≤ limit → Extended w v → length v ≤ length out → Decode (holding out v)
