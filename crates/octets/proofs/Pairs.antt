-- The pairs compared tell whether two texts are the same. Assumes nothing.
use Prim.Native.Nat.{ℕ, zero, suc, ◌<◌}
use native.Mathlib.Nat.{not-suc-le-zero}
use native.Mathlib.Omega.{arith}
use mathlib.Core.Bool.{Bool, true, false, ◌&&◌, false≢true}
use mathlib.Core.List.{List, [], ◌∷◌}
use mathlib.Core.Path.{◌≡◌, refl, sym, ap, ◌∙◌}
use lib.Dec.{eqb}
use lib.ListN.{length, get_or, length-map}
use borrow.Author.Tests.{eqb-true, eqb-false, eq-eqb, ne_eqb}
use Rattle.octets.specs.Fold.{fold, folded, same, same_folded, up_to_unequal, pairs_compared}
use Rattle.octets.specs.Laws.{Agree, PairsTell}
use Rattle.octets.proofs.Laws.{same_sound, fold_at}

-- ---- of two texts as they are

all_of_one : (u : List ℕ) → up_to_unequal u u ≡ length u
all_of_one [] = refl
all_of_one (c ∷ u) = rw (eq-eqb c c refl, all_of_one u)

all_agree : (u v : List ℕ) → length u ≡ length v → ((i : ℕ) → i < length u → get_or u i 0 ≡ get_or v i 0) → same u v ≡ true
all_agree [] [] e h = refl
all_agree [] (d ∷ v) e h = absurd (omega arith)
all_agree (c ∷ u) [] e h = absurd (omega arith)
all_agree (c ∷ u) (d ∷ v) e h =
    rw (eq-eqb c d (h 0 (omega arith))) (all_agree u v (omega arith) (λ i l. h (suc i) (omega arith)))

-- the first pair that is unequal stands at k
abbrev FirstUnequal : List ℕ → List ℕ → ℕ → Type 0
FirstUnequal u v k =
    (up_to_unequal u v ≡ suc k) × (k < length u) × ((i : ℕ) → i < k → get_or u i 0 ≡ get_or v i 0) × (get_or u k 0 ≡ get_or v k 0 → ⊥)

-- a pair that is the same in front moves it on
behind : (c d : ℕ) (u v : List ℕ) → eqb c d ≡ true → {k : ℕ} → FirstUnequal u v k → FirstUnequal (c ∷ u) (d ∷ v) (suc k)
behind c d u v q {k} (up, l, below, here) = (rw (q, up), omega arith, further, here)
  where
    further : (i : ℕ) → i < suc k → get_or (c ∷ u) i 0 ≡ get_or (d ∷ v) i 0
    further zero h = eqb-true c d q
    further (suc i) h = below i (omega arith)

first_unequal : (u v : List ℕ) → length u ≡ length v → same u v ≡ false → (k : ℕ) × FirstUnequal u v k
first_unequal [] [] e n = absurd (false≢true (sym n))
first_unequal [] (d ∷ v) e n = absurd (omega arith)
first_unequal (c ∷ u) [] e n = absurd (omega arith)
first_unequal (c ∷ u) (d ∷ v) e n = go (eqb c d) refl n (λ m. first_unequal u v (omega arith) m)
  where
    go : (b : Bool) → eqb c d ≡ b → (b && same u v) ≡ false → (same u v ≡ false → (k : ℕ) × FirstUnequal u v k)
        → (k : ℕ) × FirstUnequal (c ∷ u) (d ∷ v) k
    go true q m more = let (k, f) = more m in (suc k, behind c d u v q f)
    go false q m more = (0, (rw q, omega arith, λ i h. absurd (not-suc-le-zero h), eqb-false c d q))

unequal_either_way : (c d : ℕ) → eqb c d ≡ eqb d c
unequal_either_way c d = go (eqb c d) refl
  where
    go : (b : Bool) → eqb c d ≡ b → eqb c d ≡ eqb d c
    go true e = e ∙ sym (eq-eqb d c (sym (eqb-true c d e)))
    go false e = e ∙ sym (ne_eqb d c (λ q. eqb-false c d e (sym q)))

up_to_either_way : (u v : List ℕ) → up_to_unequal u v ≡ up_to_unequal v u
up_to_either_way [] [] = refl
up_to_either_way [] (d ∷ v) = refl
up_to_either_way (c ∷ u) [] = refl
up_to_either_way (c ∷ u) (d ∷ v) = rw (unequal_either_way c d, up_to_either_way u v)

-- ---- of two texts folded

module _ (s t : List ℕ) where
  pub pairs_of_one_length : length s ≡ length t → pairs_compared s t ≡ up_to_unequal (folded s) (folded t)
  unfolding pairs_compared
  pairs_of_one_length e = rw (eq-eqb (length s) (length t) e)

  pub pairs_of_other_lengths : (length s ≡ length t → ⊥) → pairs_compared s t ≡ 0
  unfolding pairs_compared
  pairs_of_other_lengths n = rw (ne_eqb (length s) (length t) n)

  same_all : same_folded s t ≡ true
      → (length s ≡ length t) × (pairs_compared s t ≡ length s) × ((i : ℕ) → i < pairs_compared s t → Agree s t i)
  unfolding same_folded
  same_all h =
      let one = same_sound (folded s) (folded t) h in
      let long : length s ≡ length t = sym (length-map s fold) ∙ ap length one ∙ length-map t fold in
      let all : up_to_unequal (folded s) (folded t) ≡ length s =
      ap (up_to_unequal (folded s)) (sym one) ∙ all_of_one (folded s) ∙ length-map s fold
      in
      (long, pairs_of_one_length long ∙ all, λ i l. sym (fold_at s i) ∙ ap (λ (u : List ℕ). get_or u i 0) one ∙ fold_at t i)

  lengths_folded : length s ≡ length t → length (folded s) ≡ length (folded t)
  lengths_folded e = length-map s fold ∙ e ∙ sym (length-map t fold)

  all_same : length s ≡ length t → pairs_compared s t ≡ length s → ((i : ℕ) → i < pairs_compared s t → Agree s t i)
      → same_folded s t ≡ true
  unfolding same_folded
  all_same e p h =
      all_agree (folded s) (folded t) (lengths_folded e)
      (λ i l. fold_at s i ∙ h i (omega (arith, p, length-map s fold)) ∙ sym (fold_at t i))

  last_differs : length s ≡ length t → same_folded s t ≡ false
      → (k : ℕ) × (pairs_compared s t ≡ suc k) × (k < length s) × ((i : ℕ) → i < k → Agree s t i) × (Agree s t k → ⊥)
  unfolding same_folded
  last_differs e n =
      let (k, (up, l, below, here)) = first_unequal (folded s) (folded t) (lengths_folded e) n in
      (k, pairs_of_one_length e ∙ up, omega (arith, length-map s fold), λ i h. sym (fold_at s i) ∙ below i h ∙ fold_at t i, λ a. here (fold_at s k ∙ a ∙ sym (fold_at t k)))

pairs_either_way : (s t : List ℕ) → pairs_compared s t ≡ pairs_compared t s
unfolding pairs_compared
pairs_either_way s t = rw (unequal_either_way (length s) (length t), up_to_either_way (folded s) (folded t))

pub pairs_tell : PairsTell
pairs_tell =
    record {
      same = same_all;
      only_so = all_same;
      differ = last_differs;
      lengths = pairs_of_other_lengths;
      either_way = pairs_either_way;
    }
