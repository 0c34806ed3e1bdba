-- Reading has one outcome.
use Prim.Native.Nat.{ℕ}
use mathlib.Core.Path.{◌≡◌, refl, ap, subst}
use mathlib.Core.List.{List}
use lib.ListN.{length}
use Rattle.octets.specs.Editions.{further}
use Rattle.octets.specs.declared.editions.Edition.{Edition}
use Rattle.grammar.specs.Link.{Link}
use Rattle.grammar.specs.Kept.{Reading}
use Rattle.grammar.specs.Records.{link_room_of, param_room_of, count_params}
use Rattle.grammar.specs.Place.{Malformed}
use Rattle.grammar.proofs.Editions.{apart}
use Rattle.grammar.proofs.Readings.{one_reading, decided}
use Rattle.grammar.proofs.Places.{one_place}
use Rattle.outcomes.specs.Number.{limit, too_long_number, malformed_header_number, no_link_room_number, no_param_room_number}
use Rattle.outcomes.specs.Read.{ReadOut, refused, filled, ReadIn, too_long, not_derived, no_link_room, no_param_room, reads}
use Rattle.outcomes.specs.Laws.{Settled, ReadSettled}
use Rattle.outcomes.proofs.Cases.{Branch, this, that, Order, only, branch, order, settled}
use Rattle.outcomes.proofs.InEdition.{edition_settled}

-- the place that is answered of a malformed header
abbrev place : Edition → List ℕ → ℕ
place e h = (one_place (further e) (apart e) h).0

module _ (e : Edition) (h L P : List ℕ) where
  -- what is answered where the links K are read
  abbrev Fits : List Link → ReadOut → Type 0
  Fits K =
      Order (length K) (link_room_of L)
      (Order (count_params K) (param_room_of P) (λ q. q ≡ filled h L P K) (λ q. q ≡ refused L P no_param_room_number 0))
      (λ q. q ≡ refused L P no_link_room_number 0)

  abbrev Cases : ReadOut → Type 0
  Cases =
      Order (length h) limit
      (Branch ((K : List Link) × Reading (further e) h K) (λ r. Fits r.0)
      (Malformed (further e) h) (λ q. q ≡ refused L P malformed_header_number (place e h)))
      (λ q. q ≡ refused L P too_long_number 0)

  cases : (q : ReadOut) → ReadIn e h L P q → Cases q
  cases _ (too_long l) = that l refl
  cases _ (not_derived {k} s m) =
      this s (that m.malformed (ap (refused L P malformed_header_number) ((one_place (further e) (apart e) h).2 k m.place)))
  cases _ (no_link_room s r l) = this s (this (_, r) (that l refl))
  cases _ (no_param_room s r f l) = this s (this (_, r) (this f (that l refl)))
  cases _ (reads s r f g) = this s (this (_, r) (this f (this g refl)))

  pub read_in : Settled (ReadIn e h L P)
  read_in =
      settled cases
      (order
      (λ s. branch (decided (further e) (apart e) h) (λ r m. m r.1.links r.1.derived r.1.references)
      (λ r k q f. subst (λ K. Fits K q) (one_reading (further e) (apart e) h _ _ k.1 r.1) f)
      (λ r. order
      (λ f. order (λ g. only (reads s r.1 f g)) (λ l. only (no_param_room s r.1 f l)))
      (λ l. only (no_link_room s r.1 l)))
      (λ m. only (not_derived s (record { malformed = m; place = (one_place (further e) (apart e) h).1 }))))
      (λ l. only (too_long l)))

pub read_settled : ReadSettled
read_settled n h L P = edition_settled (λ e. read_in e h L P)
