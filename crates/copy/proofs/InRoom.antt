-- Octets that are measured, and put from the buffer's start on if there is room.
use Prim.Native.Nat.{ℕ, ◌≤◌, ◌<◌}
use mathlib.Core.Path.{◌≡◌, ◌∙◌}
use mathlib.Core.List.{List, ◌++◌}
use lib.ListN.{length, drop}
use Rattle.kinds.specs.Put.{Put}
use Rattle.kinds.proofs.Stores.{sets_front}
use Rattle.outcomes.specs.Number.{done, no_output_room_number}
use Rattle.outcomes.specs.Copy.{untouched}
use Rattle.copy.specs.Room.{InRoom, short, enough}

module _ {out v : List ℕ} {n : ℕ} (q : n ≡ length v) where
  pub short_buffer : length out < n → InRoom out v (untouched out no_output_room_number)
  short_buffer k = short (rw q at k)

  pub all_put : {new : List ℕ} {at to : ℕ} → n ≤ length out → at ≡ 0 → Put out new at to v
      → InRoom out v (record { number = done; count = n; buffer = new })
  all_put {new} k z put =
      let fits : length v ≤ length out = rw q at k in
      let front : Put out new 0 _ v = rw z at put in
      let written : new ≡ v ++ drop (length v) out = front.buffer ∙ sets_front out v fits in
      rw (q, written) (enough fits)
