-- A walk goes on from where another arrived. Assumes nothing.
use Prim.Native.Nat.{ℕ, zero, suc, ◌+◌, ◌<◌}
use native.Mathlib.Nat.{add-zero, zero-add, suc-add, add-suc}
use native.Mathlib.Omega.{arith}
use mathlib.Core.Path.{◌≡◌, refl, sym, ap, ◌∙◌}
use mathlib.Core.List.{List}
use lib.ListN.{length}
use lib.IntN.{ℤ, pos, negsuc, nat_abs, ◌+ℤ◌, +ℤ_idl, +ℤ_idr}
use Rattle.catalogues.specs.Packs.{Pack, Room}
use Rattle.catalogues.specs.Steps.{arrived}
use Rattle.catalogues.specs.Walks.{Ended, walk, relation_of}
use Rattle.catalogues.specs.Outcome.{WalkOut, walked, Walk, walks}
use Rattle.catalogues.specs.Laws.{OneSign, forwards, backwards, still_first, still_last, Onwards}
use Rattle.catalogues.proofs.WalkSettled.{walk_settled}
use Rattle.catalogues.proofs.WalkEnds.{after, walk_ends, walk_on}
use Rattle.catalogues.proofs.Arrivals.{arrival, Walked, done_walked}

-- n steps over the packs ps, from number i
abbrev steps : List Pack → ℤ → ℕ → Ended
steps ps n i = walk ps (relation_of n) (nat_abs n) i

-- two walks of the same have the same outcome
same_walk : {text : List ℕ} {room : Room} {start : ℕ} {n : ℤ} {o r : WalkOut} → Walk text room start n o → Walk text room start n r
    → o ≡ r
same_walk {text} {room} {start} {n} {o} {r} a b =
    let one = (walk_settled text room start n).2 in one o a ∙ sym (one r b)

sizes : {m n : ℤ} → OneSign m n → nat_abs (m +ℤ n) ≡ nat_abs m + nat_abs n
sizes (forwards m n) = refl
sizes (backwards m n) = rw (add-suc, suc-add)
sizes (still_first n) = ap nat_abs (+ℤ_idl (negsuc n)) ∙ sym (zero-add (suc n))
sizes (still_last m) = ap nat_abs (+ℤ_idr (negsuc m)) ∙ sym (add-zero (suc m))

none_after : (r : Ended) → r ≡ after 0 r
none_after r = rw zero-add

module _ (ps : List Pack) (i : ℕ) where
  as_many : (q : List ℕ) {j k : ℕ} → j ≡ k → walk ps q j i ≡ walk ps q k i
  as_many q e = ap (λ (k : ℕ). walk ps q k i) e

  steps_on_lem : {m n : ℤ} → OneSign m n → (steps ps m i).end ≡ arrived
      → steps ps (m +ℤ n) i ≡ after (nat_abs m) (steps ps n (steps ps m i).pack)
  unfolding walk
  steps_on_lem (forwards m n) a = walk_on ps (relation_of (pos m)) m n i a
  steps_on_lem (backwards m n) a =
      as_many (relation_of (negsuc m)) (sizes (backwards m n)) ∙ walk_on ps (relation_of (negsuc m)) (suc m) (suc n) i a
  steps_on_lem (still_first n) a = ap (λ (z : ℤ). steps ps z i) (+ℤ_idl (negsuc n)) ∙ none_after (steps ps (negsuc n) i)
  steps_on_lem (still_last m) a =
      ap (λ (z : ℤ). steps ps z i) (+ℤ_idr (negsuc m)) ∙ as_many (relation_of (negsuc m)) (sym (add-zero (suc m)))
      ∙ walk_on ps (relation_of (negsuc m)) (suc m) zero i a

-- a walk that is another one with k steps before it
behind : (k : ℕ) (r : Ended) (whole second : WalkOut) → whole ≡ walked (after k r) → second ≡ walked r
    → (whole.number ≡ second.number) × (whole.end ≡ second.end) × (whole.pack ≡ second.pack) × (whole.steps ≡ k + second.steps)
behind k r whole second a b = (cc, cc, cc, cc)

pub onwards : Onwards
onwards text room start m n s near first second whole a b c w =
    let d : Walked text room start m first = done_walked a b.number in
    let r : Ended = steps d.packs m start in
    let arrives : r.end ≡ arrived = arrival r.end (sym (ap (λ (o : WalkOut). o.end) d.is) ∙ b.end) in
    let here : r.pack < length d.packs = (walk_ends d.packs (relation_of m) (nat_abs m) start d.there).pack in
    let there : first.pack ≡ r.pack = ap (λ (o : WalkOut). o.pack) d.is in
    let more : second ≡ walked (steps d.packs n first.pack) =
    same_walk c (walks (omega (arith, sizes s)) d.catalogue (omega (arith, there, here)) d.roomy)
    in
    let all : whole ≡ walked (steps d.packs (m +ℤ n) start) = same_walk w (walks near d.catalogue d.there d.roomy) in
    let on : steps d.packs (m +ℤ n) start ≡ after (nat_abs m) (steps d.packs n first.pack) =
    steps_on_lem d.packs start s arrives ∙ ap (λ (k : ℕ). after (nat_abs m) (steps d.packs n k)) (sym there)
    in
    behind (nat_abs m) (steps d.packs n first.pack) whole second (all ∙ ap walked on) more
