-- An index of packs, and what is found in it.
use Rattle.std.specs.Prelude.{ℕ, ◌+◌, ◌*◌, ◌≤◌, ◌<◌, ◌≡◌, true, false, List, [], ◌∷◌, length, get_or, Option, Some, None}
use Rattle.std.proofs.Math.Seq.{slice}
use Rattle.octets.specs.Fold.{same}
use Rattle.pack_index.specs.declared.PackPlaces.{PackPlaces}
use Rattle.kinds.specs.declared.PackNumber.{PackNumber}

-- the places that the index has for pack number i
abbrev pub places_at : List ℕ → ℕ → PackPlaces
places_at X i =
    record {
      from = record { 0 = get_or X (3 * i) 0 };
      tab = record { 0 = get_or X (3 * i + 1) 0 };
      end = record { 0 = get_or X (3 * i + 2) 0 };
    }

abbrev pub numbers_of : PackPlaces → List ℕ
numbers_of p = p.from.0 ∷ p.tab.0 ∷ p.end.0 ∷ []

-- n octets from place a on are the same in both texts
abbrev pub SameBlock : List ℕ → List ℕ → ℕ → ℕ → Type 0
SameBlock u v a n = (k : ℕ) → k < n → get_or u (a + k) 0 ≡ get_or v (a + k) 0

-- a URI, a tab and a Link value stand there, and an octet behind them
pub record Placed (s : List ℕ) (p : PackPlaces) : Type 0 where
  pub uri : p.from.0 ≤ p.tab.0
  pub value : p.tab.0 < p.end.0
  pub inside : p.end.0 < length s

-- the octets of its URI and of its Link value
abbrev pub uri_in : List ℕ → PackPlaces → List ℕ
uri_in s p = slice p.from.0 p.tab.0 s

abbrev pub value_in : List ℕ → PackPlaces → List ℕ
value_in s p = slice (p.tab.0 + 1) p.end.0 s

-- the index has places for n packs, all in the text
pub record Held (s X : List ℕ) (n : ℕ) : Type 0 where
  pub room : 3 * n ≤ length X
  pub placed : (i : ℕ) → i < n → Placed s (places_at X i)

-- of n packs, r is the first that has the URI w, or none of them has it
abbrev pub FoundBy : List ℕ → List ℕ → ℕ → List ℕ → Option PackNumber → Type 0
FoundBy s X n w (Some k) =
    (k.0 < n) × (same (uri_in s (places_at X k.0)) w ≡ true) × ((j : ℕ) → j < k.0 → same (uri_in s (places_at X j)) w ≡ false)
FoundBy s X n w None = (j : ℕ) → j < n → same (uri_in s (places_at X j)) w ≡ false
