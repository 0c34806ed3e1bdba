-- A walk that arrives takes the steps asked for, and one that doesn't takes fewer. Assumes nothing.
use Prim.Native.Nat.{ℕ, ◌≤◌, ◌<◌}
use native.Mathlib.Omega.{arith}
use mathlib.Core.Path.{◌≡◌, sym, ap, subst}
use mathlib.Core.List.{List}
use lib.IntN.{ℤ, pos, nat_abs}
use Rattle.catalogues.specs.Packs.{Pack, Room}
use Rattle.catalogues.specs.Steps.{arrived}
use Rattle.catalogues.specs.Walks.{Ended, walk, relation_of}
use Rattle.catalogues.specs.Outcome.{WalkOut, end_number, walked, Walk, out_of_range, bad_catalogue, no_such_pack, no_room, walks}
use Rattle.catalogues.specs.Laws.{StepsTaken}
use Rattle.catalogues.proofs.WalkEnds.{Ends, walk_ends}
use Rattle.catalogues.proofs.Arrivals.{arrival, Walked, done_walked}

-- n steps were asked for, and this is answered
record Counted (n : ℕ) (o : WalkOut) : Type 0 where
  all : o.end ≡ end_number arrived → o.steps ≡ n
  fewer : (o.end ≡ end_number arrived → ⊥) → o.steps < n

counted : {ps : List Pack} {n : ℕ} {r : Ended} → Ends ps n r → Counted n (walked r)
counted {r = r} e = record { all = λ a. e.all (arrival r.end a); fewer = λ a. e.fewer (λ q. a (ap end_number q)) }

walked_counted : {text : List ℕ} {room : Room} {start : ℕ} {n : ℤ} {o : WalkOut} → Walked text room start n o → Counted (nat_abs n) o
walked_counted {start = start} {n = n} w =
    subst (Counted (nat_abs n)) (sym w.is) (counted (walk_ends w.packs (relation_of n) (nat_abs n) start w.there))

at_most : {text : List ℕ} {room : Room} {start : ℕ} {n : ℤ} {o : WalkOut} → Walk text room start n o → o.steps ≤ nat_abs n
at_most (out_of_range l) = omega arith
at_most (bad_catalogue h c) = omega arith
at_most (no_such_pack h c l) = omega arith
at_most (no_room h c s l) = omega arith
at_most {start = start} {n = n} (walks {ps} h c s l) = (walk_ends ps (relation_of n) (nat_abs n) start s).most

still : {text : List ℕ} {room : Room} {start : ℕ} {o : WalkOut} → Walked text room start (pos 0) o
    → (o.end ≡ end_number arrived) × (o.pack ≡ start) × (o.steps ≡ 0)
unfolding walk
still w = (ap (λ (x : WalkOut). x.end) w.is, ap (λ (x : WalkOut). x.pack) w.is, ap (λ (x : WalkOut). x.steps) w.is)

pub steps_taken : StepsTaken
steps_taken = record {
  all = λ text room start n o w a. (walked_counted (done_walked w a.number)).all a.end;
  fewer = λ text room start n o w d. (walked_counted (done_walked w d)).fewer;
  at_most = λ text room start n o. at_most;
  still = λ text room start o w d. still (done_walked w d);
}
