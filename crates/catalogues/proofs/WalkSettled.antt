-- A walk has one outcome. Assumes nothing.
use Prim.Native.Nat.{ℕ}
use mathlib.Core.Path.{◌≡◌, refl, subst}
use mathlib.Core.Logic.{◌⊎◌, inl, inr}
use mathlib.Core.List.{List}
use lib.ListN.{length}
use lib.IntN.{ℤ, nat_abs}
use Rattle.outcomes.specs.Number.{limit, no_such_link_number, no_output_room_number, out_of_range_number, bad_catalogue_number}
use Rattle.outcomes.specs.Laws.{Settled}
use Rattle.outcomes.proofs.Cases.{Branch, this, that, Order, only, branch, order, settled}
use Rattle.catalogues.specs.Packs.{Pack, Room, Catalogue}
use Rattle.catalogues.specs.Walks.{walk, relation_of}
use Rattle.catalogues.specs.Outcome.{
  step_limit,
  WalkOut,
  refused,
  walked,
  Walk,
  out_of_range,
  bad_catalogue,
  no_such_pack,
  no_room,
  walks,
}
use Rattle.catalogues.specs.Laws.{WalkSettled}
use Rattle.catalogues.proofs.OneCatalogue.{one_catalogue}
use Rattle.catalogues.proofs.Decided.{catalogue_decided}

module _ (text : List ℕ) (room : Room) (start : ℕ) (n : ℤ) where
  -- the text is a catalogue of some packs
  abbrev Some : Type 0
  Some = (ps : List Pack) × Catalogue room text ps

  abbrev None : Type 0
  None = (ps : List Pack) → Catalogue room text ps → ⊥

  some_or_none : Dec Some → Some ⊎ None
  some_or_none (yes c) = inl c
  some_or_none (no c) = inr (λ ps d. c (ps, d))

  -- what is answered over a catalogue of the packs ps
  abbrev Over : List Pack → WalkOut → Type 0
  Over ps =
      Order (length ps) start (λ q. q ≡ refused no_such_link_number)
      (Order limit room.octets (λ q. q ≡ walked (walk ps (relation_of n) (nat_abs n) start)) (λ q. q ≡ refused no_output_room_number))

  abbrev Cases : WalkOut → Type 0
  Cases =
      Order (nat_abs n) step_limit (Branch Some (λ c. Over c.0) None (λ q. q ≡ refused bad_catalogue_number)) (λ q. q ≡ refused out_of_range_number)

  cases : (q : WalkOut) → Walk text room start n q → Cases q
  cases _ (out_of_range l) = that l refl
  cases _ (bad_catalogue h c) = this h (that c refl)
  cases _ (no_such_pack h c l) = this h (this (_, c) (this l refl))
  cases _ (no_room h c s l) = this h (this (_, c) (that s (that l refl)))
  cases _ (walks h c s l) = this h (this (_, c) (that s (this l refl)))

  answered : Settled (Walk text room start n)
  answered =
      settled cases
      (order
      (λ h. branch (some_or_none (catalogue_decided room text)) (λ c d. d c.0 c.1)
      (λ c d q o. subst (λ ps. Over ps q) (one_catalogue room text d.0 c.0 d.1 c.1) o)
      (λ c. order (λ l. only (no_such_pack h c.1 l))
      (λ s. order (λ l. only (walks h c.1 s l)) (λ l. only (no_room h c.1 s l))))
      (λ c. only (bad_catalogue h c)))
      (λ l. only (out_of_range l)))

pub walk_settled : WalkSettled
walk_settled text room start n = answered text room start n
