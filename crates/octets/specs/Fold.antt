-- Folding A to Z to a to z, comparison of texts as they are folded, and how many pairs of octets it takes.
use Rattle.std.specs.Prelude.{ℕ, suc, ◌+◌, Bool, true, false, cond, ◌&&◌, List, [], ◌∷◌, map, eqb, length}
use Rattle.octets.specs.Sets.{between}

-- A to Z become a to z, and no other octet changes
unfoldable pub fold : ℕ → ℕ
fold c = cond (between 65 90 c) (c + 32) c

abbrev pub folded : List ℕ → List ℕ
folded s = map fold s

-- two texts are the same octets
abbrev pub same : List ℕ → List ℕ → Bool
same [] [] = true
same [] (d ∷ t) = false
same (c ∷ s) [] = false
same (c ∷ s) (d ∷ t) = eqb c d && same s t

-- two texts compare equal as names do
unfoldable pub same_folded : List ℕ → List ℕ → Bool
same_folded s t = same (folded s) (folded t)

-- how many pairs there are up to and with the first that is unequal, or in all
abbrev pub up_to_unequal : List ℕ → List ℕ → ℕ
up_to_unequal [] t = 0
up_to_unequal (c ∷ s) [] = 0
up_to_unequal (c ∷ s) (d ∷ t) = cond (eqb c d) (suc (up_to_unequal s t)) 1

-- how many pairs of octets the folded comparison of two texts takes: none if the lengths differ
unfoldable pub pairs_compared : List ℕ → List ℕ → ℕ
pairs_compared s t = cond (eqb (length s) (length t)) (up_to_unequal (folded s) (folded t)) 0
