-- What one octet of a path adds to the result, told by how many octets that is.
use Rattle.std.specs.Prelude.{ℕ, zero, suc, ◌-◌, ◌≡◌, List, [], ◌∷◌, length}
use Rattle.std.proofs.lemmas.List.Edits.{sets}
use Rattle.resolution.specs.Walking.{run, text}
use Rattle.resolution.specs.declared.Walk.{Walk}

-- nothing; or c, and behind it the dots that were held back
abbrev pub gained : ℕ → ℕ → List ℕ
gained zero c = []
gained (suc zero) c = c ∷ []
gained (suc (suc zero)) c = c ∷ 46 ∷ []
gained (suc (suc (suc n))) c = c ∷ 46 ∷ 46 ∷ []

-- from the state b on w leads to the state r, and what it adds was stored over `old`, up to as many octets before the place `end` as b has
-- kept
pub record Written (old new : List ℕ) (end : ℕ) (w : List ℕ) (b r : Walk) : Type 0 where
  pub state : r ≡ run w b
  pub buffer : new ≡ sets old (end - r.kept) (text w b)
