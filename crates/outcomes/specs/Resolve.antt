-- Resolving a reference on a base. The numbers come in the order 1 (the reference or the base), 12, 13, 1 (the result), 7.
use Rattle.std.specs.Prelude.{ℕ, ◌≤◌, ◌<◌, List, ◌⊎◌, length}
use Rattle.references.specs.AppendixA.{IsReference, IsURI}
use Rattle.resolution.specs.Resolve.{resolved}
use Rattle.outcomes.specs.Number.{limit, too_long_number, no_output_room_number, bad_base_number, bad_reference_number}
use Rattle.outcomes.specs.Copy.{CopyOut, untouched, holding}

-- the octets v are written into a buffer that holds `out`, if they are within the limit and there is room
pub data Fitted (out v : List ℕ) : CopyOut → Type 0 where
  too_long : limit < length v → Fitted out v (untouched out too_long_number)
  no_room : length v ≤ limit → length out < length v → Fitted out v (untouched out no_output_room_number)
  fits : length v ≤ limit → length v ≤ length out → Fitted out v (holding out v)

-- the reference w, the base, and a buffer that holds `out`
module _ (w base out : List ℕ) where
  pub data Resolve : CopyOut → Type 0 where
    too_long : (limit < length w) ⊎ (limit < length base) → Resolve (untouched out too_long_number)
    -- whatever the reference is
    bad_base : length w ≤ limit → length base ≤ limit → (IsURI base → ⊥) → Resolve (untouched out bad_base_number)
    bad_reference : length w ≤ limit → length base ≤ limit → IsURI base → (IsReference w → ⊥) → Resolve (untouched out bad_reference_number)
    resolves : {o : CopyOut} → length w ≤ limit → length base ≤ limit → IsURI base → IsReference w → Fitted out (resolved base w) o
        → Resolve o
