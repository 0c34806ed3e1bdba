-- What is proved of the comparison of texts.
use Rattle.std.specs.Prelude.{ℕ, suc, ◌<◌, ◌≡◌, true, false, List, length, get_or}
use Rattle.octets.specs.Fold.{fold, same_folded, pairs_compared}

-- the pair at place i is the same once folded
abbrev pub Agree : List ℕ → List ℕ → ℕ → Type 0
Agree s t i = fold (get_or s i 0) ≡ fold (get_or t i 0)

-- The pairs compared tell the answer. `same`, `only_so`: the texts are the same exactly if the lengths are equal, and all pairs were
-- compared and agree. `differ`: of other texts of one length, the last pair compared is the first that doesn't agree. `lengths`: of
-- texts of other lengths no pair is compared. `either_way`: the order of the two makes no difference.
pub record PairsTell : Type 0 where
  pub same : (s t : List ℕ) → same_folded s t ≡ true
      → (length s ≡ length t) × (pairs_compared s t ≡ length s) × ((i : ℕ) → i < pairs_compared s t → Agree s t i)
  pub only_so : (s t : List ℕ) → length s ≡ length t → pairs_compared s t ≡ length s
      → ((i : ℕ) → i < pairs_compared s t → Agree s t i) → same_folded s t ≡ true
  pub differ : (s t : List ℕ) → length s ≡ length t → same_folded s t ≡ false
      → (k : ℕ) × (pairs_compared s t ≡ suc k) × (k < length s) × ((i : ℕ) → i < k → Agree s t i) × (Agree s t k → ⊥)
  pub lengths : (s t : List ℕ) → (length s ≡ length t → ⊥) → pairs_compared s t ≡ 0
  pub either_way : (s t : List ℕ) → pairs_compared s t ≡ pairs_compared t s
