-- Decoding an extended value has one outcome.
use Prim.Native.Nat.{ℕ}
use mathlib.Core.Path.{◌≡◌, refl}
use mathlib.Core.Logic.{◌⊎◌, inl, inr}
use mathlib.Core.List.{List}
use mathlib.Core.Option.{none, some}
use lib.ListN.{length}
use Rattle.extended.specs.Value.{Extended, Wrong}
use Rattle.extended.specs.Decoded.{decoded}
use Rattle.extended.proofs.Exact.{decoded_exact, one_text}
use Rattle.outcomes.specs.Number.{limit, too_long_number, no_output_room_number, bad_extended_number}
use Rattle.outcomes.specs.Copy.{CopyOut, untouched, holding}
use Rattle.outcomes.specs.Decode.{Decode, too_long, wrong, no_room, gives}
use Rattle.outcomes.specs.Laws.{Settled, DecodeSettled}
use Rattle.outcomes.proofs.Cases.{Branch, this, that, Order, only, branch, order, settled}
use Rattle.outcomes.proofs.Options.{some_or_none, not_none}

-- a value is right or wrong
pub right_or_wrong : (w : List ℕ) → ((v : List ℕ) × Extended w v) ⊎ Wrong w
right_or_wrong w = go (some_or_none (decoded w))
  where
    go : ((v : List ℕ) × (decoded w ≡ some v)) ⊎ (decoded w ≡ none) → ((v : List ℕ) × Extended w v) ⊎ Wrong w
    go (inl (v, e)) = inl (v, decoded_exact.right w v e)
    go (inr n) = inr (λ v x. not_none (decoded_exact.all w v x) n)

-- the octets v are handed out if they fit
abbrev pub Fits : List ℕ → List ℕ → CopyOut → Type 0
Fits out v = Order (length v) (length out) (λ q. q ≡ holding out v) (λ q. q ≡ untouched out no_output_room_number)

module _ (w out : List ℕ) where
  abbrev Cases : CopyOut → Type 0
  Cases =
      Order (length w) limit
      (Branch ((v : List ℕ) × Extended w v) (λ x. Fits out x.0) (Wrong w) (λ q. q ≡ untouched out bad_extended_number))
      (λ q. q ≡ untouched out too_long_number)

  cases : (q : CopyOut) → Decode w out q → Cases q
  cases _ (too_long l) = that l refl
  cases _ (wrong h n) = this h (that n refl)
  cases _ (no_room h x l) = this h (this (_, x) (that l refl))
  cases _ (gives h x l) = this h (this (_, x) (this l refl))

  decodes : Settled (Decode w out)
  decodes =
      settled cases
      (order
      (λ h. branch (right_or_wrong w) (λ x n. n x.0 x.1)
      (λ x y q f. rw (one_text w x.0 y.0 x.1 y.1) f)
      (λ x. order (λ l. only (gives h x.1 l)) (λ l. only (no_room h x.1 l)))
      (λ n. only (wrong h n)))
      (λ l. only (too_long l)))

pub decode_settled : DecodeSettled
decode_settled w out = decodes w out
