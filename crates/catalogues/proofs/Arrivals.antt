-- A walk that is not refused is walked over a catalogue's packs, and its number tells whether it arrived. Assumes nothing.
use Prim.Native.Nat.{ℕ, ◌≤◌, ◌<◌}
use native.Mathlib.Omega.{arith}
use mathlib.Core.Path.{◌≡◌, refl}
use mathlib.Core.List.{List}
use lib.ListN.{length}
use lib.IntN.{ℤ, nat_abs}
use Rattle.outcomes.specs.Number.{limit, done}
use Rattle.catalogues.specs.Packs.{Pack, Room, Catalogue}
use Rattle.catalogues.specs.Steps.{End, arrived, no_link, no_target, no_pack}
use Rattle.catalogues.specs.Walks.{walk, relation_of}
use Rattle.catalogues.specs.Outcome.{
  step_limit,
  WalkOut,
  end_number,
  walked,
  Walk,
  out_of_range,
  bad_catalogue,
  no_such_pack,
  no_room,
  walks,
}

-- the number of an arrival is no other end's
pub arrival : (e : End) → end_number e ≡ end_number arrived → e ≡ arrived
arrival arrived n = refl
arrival no_link n = absurd (omega arith)
arrival no_target n = absurd (omega arith)
arrival no_pack n = absurd (omega arith)

-- the walk is not refused: it is walked, over some packs
pub record Walked (text : List ℕ) (room : Room) (start : ℕ) (n : ℤ) (o : WalkOut) : Type 0 where
  pub packs : List Pack
  pub near : nat_abs n ≤ step_limit
  pub catalogue : Catalogue room text packs
  pub there : start < length packs
  pub roomy : limit ≤ room.octets
  pub is : o ≡ walked (walk packs (relation_of n) (nat_abs n) start)

pub done_walked : {text : List ℕ} {room : Room} {start : ℕ} {n : ℤ} {o : WalkOut} → Walk text room start n o → o.number ≡ done
    → Walked text room start n o
done_walked (out_of_range l) d = absurd (omega arith)
done_walked (bad_catalogue h c) d = absurd (omega arith)
done_walked (no_such_pack h c l) d = absurd (omega arith)
done_walked (no_room h c s l) d = absurd (omega arith)
done_walked (walks {ps} h c s l) d = record { packs = ps; near = h; catalogue = c; there = s; roomy = l; is = refl }
