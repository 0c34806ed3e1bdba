-- A text without the LF that ends it.
use Rattle.std.specs.Prelude.{ℕ, cond, List, [], ◌∷◌, ◌≡◌, eqb}
use Rattle.std.specs.Borrow.{Bor}

-- less one final LF, if there
unfoldable pub without_final_lf : List ℕ → List ℕ
without_final_lf [] = []
without_final_lf (c ∷ []) = cond (eqb c 10) [] (c ∷ [])
without_final_lf (c ∷ d ∷ s) = c ∷ without_final_lf (d ∷ s)

-- r is that part of s, where it stands in memory
pub record IsTrimmed (s r : Bor (List ℕ)) : Type 0 where
  pub octets : r.now ≡ without_final_lf s.now
  pub place : r.ref_ptr ≡ s.ref_ptr
