-- A feed and the finish have one outcome each, and a start is right for no octets.
use Prim.Native.Nat.{ℕ}
use native.Mathlib.Omega.{arith}
use mathlib.Core.Path.{◌≡◌, refl, ap}
use mathlib.Core.List.{List, ◌++◌}
use lib.ListN.{length}
use Rattle.octets.specs.Editions.{further}
use Rattle.octets.specs.declared.editions.Edition.{Edition}
use Rattle.grammar.specs.Place.{Begun}
use Rattle.grammar.proofs.Editions.{apart}
use Rattle.grammar.proofs.Places.{one_place, begun_decided, begun_nothing}
use Rattle.outcomes.specs.Number.{limit, too_long_number, malformed_header_number, no_output_room_number}
use Rattle.outcomes.specs.Read.{ReadOut, refused, ReadIn}
use Rattle.outcomes.specs.Feed.{
  FeedOut,
  unstored,
  gathering,
  FeedIn,
  small_buffer,
  too_long,
  wrong_so_far,
  right_so_far,
  FinishIn,
  no_buffer,
  as_read,
}
use Rattle.outcomes.specs.Feeding.{begun}
use Rattle.outcomes.specs.Laws.{Settled, FeedSettled, FinishSettled, StartHolds}
use Rattle.outcomes.proofs.Cases.{Branch, this, that, Order, only, branch, order, settled}
use Rattle.outcomes.proofs.InEdition.{edition_settled}
use Rattle.outcomes.proofs.ReadSettled.{read_in}

module _ (e : Edition) (fed part buffer : List ℕ) where
  -- the place of the octets so far
  abbrev place : ℕ
  place = (one_place (further e) (apart e) (fed ++ part)).0

  abbrev Cases : FeedOut → Type 0
  Cases =
      Order limit (length buffer)
      (Order (length (fed ++ part)) limit
      (Branch (Begun (further e) (fed ++ part)) (λ b q. q ≡ gathering (fed ++ part) buffer)
      (Begun (further e) (fed ++ part) → ⊥) (λ q. q ≡ unstored buffer malformed_header_number place))
      (λ q. q ≡ unstored buffer too_long_number 0))
      (λ q. q ≡ unstored buffer no_output_room_number 0)

  cases : (q : FeedOut) → FeedIn e fed part buffer q → Cases q
  cases _ (small_buffer l) = that l refl
  cases _ (too_long h l) = this h (that l refl)
  cases _ (wrong_so_far {k} h s n p) =
      this h
      (this s (that n (ap (unstored buffer malformed_header_number) ((one_place (further e) (apart e) (fed ++ part)).2 k p))))
  cases _ (right_so_far h s b) = this h (this s (this b refl))

  pub feed_in : Settled (FeedIn e fed part buffer)
  feed_in =
      settled cases
      (order
      (λ h. order
      (λ s. branch (begun_decided (further e) (apart e) (fed ++ part)) (λ b n. n b) (λ b c q z. z)
      (λ b. only (right_so_far h s b))
      (λ n. only (wrong_so_far h s n (one_place (further e) (apart e) (fed ++ part)).1)))
      (λ l. only (too_long h l)))
      (λ l. only (small_buffer l)))

pub feed_settled : FeedSettled
feed_settled n fed part buffer = edition_settled (λ e. feed_in e fed part buffer)

module _ (e : Edition) (fed buffer L P : List ℕ) where
  abbrev Ends : ReadOut → Type 0
  Ends = Order limit (length buffer) (ReadIn e fed L P) (λ q. q ≡ refused L P no_output_room_number 0)

  ends : (q : ReadOut) → FinishIn e fed buffer L P q → Ends q
  ends _ (no_buffer l) = that l refl
  ends _ (as_read h r) = this h r

  pub finish_in : Settled (FinishIn e fed buffer L P)
  finish_in =
      settled ends
      (order (λ h. let (o, out, one) = read_in e fed L P in (o, as_read h out, one)) (λ l. only (no_buffer l)))

pub finish_settled : FinishSettled
finish_settled n fed buffer L P = edition_settled (λ e. finish_in e fed buffer L P)

pub start_holds : StartHolds
start_holds e buffer = begun (omega arith) (begun_nothing (further e) (apart e)) refl
