-- What the loop of the comparison keeps: what is left of two texts compares as the whole texts do. Assumes nothing.
use Prim.Native.Nat.{ℕ, suc, ◌+◌, ◌≤◌, ◌<◌}
use mathlib.Core.Bool.{Bool, true, false, not, cond, ◌&&◌}
use mathlib.Core.List.{List}
use mathlib.Core.Path.{◌≡◌, refl, sym, ◌∙◌}
use native.Mathlib.Numerals.{add-one}
use native.Mathlib.Omega.{arith}
use borrow.Author.Tests.{not-true, not-false}
use lib.Dec.{eqb}
use lib.ListN.{length, get_or, drop, drop_of_length-le}
use lib.Seq.{drop-cons}
use Rattle.octets.specs.Fold.{fold, folded, same_folded, up_to_unequal, pairs_compared}
use Rattle.octets.proofs.Laws.{same_lengths}
use Rattle.octets.proofs.Pairs.{pairs_of_one_length, pairs_of_other_lengths}

-- the two answers
abbrev pub Told : List ℕ → List ℕ → Bool → ℕ → Type 0
Told x y b n = (b ≡ same_folded x y) × (n ≡ pairs_compared x y)

-- the octets below i agree
pub record AlikeSoFar (x y : List ℕ) (i : ℕ) : Type 0 where
  pub inside : i ≤ length x
  pub lengths : length x ≡ length y
  pub rest : same_folded x y ≡ same_folded (drop i x) (drop i y)
  pub pairs : pairs_compared x y ≡ i + up_to_unequal (folded (drop i x)) (folded (drop i y))

pub other_lengths : (x y : List ℕ) → (length x ≡ length y → ⊥) → Told x y false 0
other_lengths x y n = (sym (same_lengths x y n), sym (pairs_of_other_lengths x y n))

pub none_yet : {x y : List ℕ} → length x ≡ length y → AlikeSoFar x y 0
none_yet {x} {y} e =
    record { inside = omega arith; lengths = e; rest = refl; pairs = omega (arith, pairs_of_one_length x y e) }

-- one turn: r tells whether the octets at i are the same, folded
module _ {x y : List ℕ} {i : ℕ} {r : Bool} (h : AlikeSoFar x y i) (l : i < length x) (e : r ≡ eqb (fold (get_or x i 0)) (fold (get_or y i 0))) where
  turn : same_folded x y ≡ (r && same_folded (drop (suc i) x) (drop (suc i) y))
  unfolding same_folded
  turn = h.rest ∙ rw (drop-cons x i 0 l, drop-cons y i 0 (omega arith), e)

  count : pairs_compared x y ≡ i + cond r (suc (up_to_unequal (folded (drop (suc i) x)) (folded (drop (suc i) y)))) 1
  count = h.pairs ∙ rw (drop-cons x i 0 l, drop-cons y i 0 (omega arith), e)

  pub differ : not r ≡ true → Told x y false (i + 1)
  differ n = (rw (turn, not-true r n), sym (count ∙ rw (not-true r n)))

  pub agree : not r ≡ false → AlikeSoFar x y (i + 1)
  agree n =
      record {
        inside = omega arith;
        lengths = h.lengths;
        rest = rw (add-one, turn, not-false r n);
        pairs = count ∙ rw (add-one, not-false r n) (omega arith);
      }

pub through : {x y : List ℕ} {i : ℕ} → AlikeSoFar x y i → length x ≤ i → Told x y true (length x)
unfolding same_folded
through {x} {y} {i} h l =
    let counted : pairs_compared x y ≡ i = h.pairs ∙ rw (drop_of_length-le x l) (omega arith) in
    (rw (h.rest, drop_of_length-le x l, drop_of_length-le y {i = i} (omega arith)), omega arith)
