-- Two texts of one length that are the same from some place on. Assumes nothing.
use Prim.Native.Nat.{ℕ, zero, suc, ◌+◌, ◌-◌, ◌≤◌, ◌<◌}
use native.Mathlib.Nat.{eq-or-lt_of_le}
use native.Mathlib.Omega.{arith}
use mathlib.Core.Path.{◌≡◌, refl, sym, ap, subst, ◌∙◌}
use mathlib.Core.Logic.{⊎_elim}
use mathlib.Core.Bool.{Bool, true, false, ◌&&◌}
use mathlib.Core.List.{List, ◌∷◌}
use lib.Dec.{eqb}
use lib.ListN.{length, get_or, drop}
use lib.Seq.{drop-cons, drop-length}
use borrow.Author.Tests.{eqb-true}
use Rattle.octets.specs.Fold.{same}
use Rattle.octets.proofs.Octets.{both}
use Rattle.octets.proofs.Laws.{same_refl, same_false}
use Rattle.pack_index.specs.Index.{SameBlock}

pub record SameFrom (u v : List ℕ) (i : ℕ) : Type 0 where
  pub inside : i ≤ length u
  pub lengths : length u ≡ length v
  pub octets : drop i u ≡ drop i v

-- a block of octets, one by one
module _ (u v : List ℕ) (a : ℕ) where
  pub none_yet : true ≡ true → SameBlock u v a 0
  none_yet e k l = absurd (omega arith)

  pub one_more : {b : Bool} (n : ℕ) → (b ≡ true → SameBlock u v a n)
      → (b && eqb (get_or u (a + n) 0) (get_or v (a + n) 0)) ≡ true → SameBlock u v a (n + 1)
  one_more {b} n h e k l =
      let t = both b (eqb (get_or u (a + n) 0) (get_or v (a + n) 0)) e in
      ⊎_elim (λ (q : k ≡ n). rw q (eqb-true _ _ t.1)) (h t.0 k) (eq-or-lt_of_le {n = k} {m = n} (omega arith))

module _ {u v : List ℕ} where
  pub at_the_end : length u ≡ length v → SameFrom u v (length u)
  at_the_end e =
      record {
        inside = omega arith;
        lengths = e;
        octets = drop-length u ∙ sym (drop-length v) ∙ ap (λ (k : ℕ). drop k v) (sym e);
      }

  -- one octet before
  pub one_before : {i : ℕ} → SameFrom u v i → 0 < i → get_or u (i - 1) 0 ≡ get_or v (i - 1) 0 → SameFrom u v (i - 1)
  one_before {i} h l e =
      let same_place : suc (i - 1) ≡ i = omega arith in
      let left : drop (suc (i - 1)) u ≡ drop (suc (i - 1)) v = subst (λ (k : ℕ). drop k u ≡ drop k v) (sym same_place) h.octets in
      record {
        inside = omega (arith, h.inside);
        lengths = h.lengths;
        octets =
            drop-cons u (i - 1) 0 (omega (arith, h.inside))
            ∙ ap (λ (c : ℕ). c ∷ drop (suc (i - 1)) u) e
            ∙ ap (λ (w : List ℕ). get_or v (i - 1) 0 ∷ w) left
            ∙ sym (drop-cons v (i - 1) 0 (omega (arith, h.inside, h.lengths)));
      }

  -- n octets before
  pub block_before : (n : ℕ) {a i : ℕ} → SameFrom u v i → a + n ≡ i → SameBlock u v a n → SameFrom u v a
  block_before zero {a} {i} h e b = let same_place : i ≡ a = omega arith in subst (SameFrom u v) same_place h
  block_before (suc n) {a} {i} h e b =
      let last : i - 1 ≡ a + n = omega arith in
      let here : get_or u (i - 1) 0 ≡ get_or v (i - 1) 0 = subst (λ (k : ℕ). get_or u k 0 ≡ get_or v k 0) (sym last) (b n (omega arith)) in
      block_before n (one_before h (omega arith) here) (sym last) (λ k l. b k (omega (arith, l)))

  pub same_all : {i : ℕ} → SameFrom u v i → i ≤ 0 → true ≡ same u v
  same_all {i} h l =
      let z : i ≡ 0 = omega arith in
      let whole : u ≡ v = subst (λ (k : ℕ). drop k u ≡ drop k v) z h.octets in
      sym (subst (λ (w : List ℕ). same u w ≡ true) whole (same_refl u))

pub other_lengths : (u v : List ℕ) → (length u ≡ length v → ⊥) → false ≡ same u v
other_lengths u v n = sym (same_false u v (λ e. n (ap length e)))

pub other_octet : (u v : List ℕ) (i : ℕ) → (get_or u i 0 ≡ get_or v i 0 → ⊥) → false ≡ same u v
other_octet u v i n = sym (same_false u v (λ e. n (ap (λ (w : List ℕ). get_or w i 0) e)))
