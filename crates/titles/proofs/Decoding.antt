-- What one extended value gives is written.
use Prim.Native.Nat.{ℕ, ◌≤◌}
use native.Mathlib.Omega.{arith}
use mathlib.Core.Path.{◌≡◌, subst}
use mathlib.Core.List.{List}
use lib.ListN.{length}
use lib.Seq.{take_all}
use Rattle.extended.specs.Value.{Extended, Wrong}
use Rattle.extended.specs.Decoded.{given}
use Rattle.outcomes.specs.Number.{limit, bad_extended_number}
use Rattle.outcomes.specs.Copy.{CopyOut, untouched}
use Rattle.outcomes.specs.Decode.{Decode, wrong, no_room, gives}
use Rattle.units.specs.declared.Reading.TheVariants.{AsItStands}
use Rattle.units.specs.Seen.{seen}
use Rattle.decoding.specs.Measured.{octets_given}
use Rattle.decoding.specs.Judged.{IsRight, IsWrong}
use Rattle.decoding.proofs.Judging.{right_octets}
use Rattle.copy.specs.Room.{InRoom, short, enough}

module _ (w : List ℕ) (h : length w ≤ limit) where
  -- as it stands
  whole : seen AsItStands w (length w) 0 ≡ w
  whole = take_all (length w) w (omega arith)

  pub is_wrong : (out : List ℕ) → IsWrong AsItStands w (length w) 0 → Decode w out (untouched out bad_extended_number)
  is_wrong out b = wrong h (subst Wrong whole b.wrong)

  pub is_given_lem : {k n : ℕ} → IsRight AsItStands w (length w) 0 k n → {out : List ℕ} {o : CopyOut}
      → InRoom out (octets_given (given (seen AsItStands w (length w) k))) o → Decode w out o
  is_given_lem {k} r {out} {o} room = go (subst (λ (v : List ℕ). InRoom out v o) (right_octets r) room)
    where
      right : Extended w r.octets
      right = subst (λ (x : List ℕ). Extended x r.octets) whole r.extended

      go : {q : CopyOut} → InRoom out r.octets q → Decode w out q
      go (short l) = no_room h right l
      go (enough l) = gives h right l
