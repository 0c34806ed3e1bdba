-- What is left of a value's meaning from a place on.
use Rattle.std.specs.Prelude.{ℕ, suc, ◌≤◌, ◌<◌, ◌≡◌, List, [], ◌∷◌, get_or}
use Rattle.std.proofs.Math.Seq.{slice}
use Rattle.tables.specs.Meaning.{unescape}

-- the meaning of the part of s from place k to place e
abbrev pub rest : List ℕ → ℕ → ℕ → List ℕ
rest s e k = unescape (slice k e s)

-- the octet meant at place k stands at place p, which is k or one behind a backslash; a lone backslash at the end means none
pub record Meant (s : List ℕ) (e k p : ℕ) : Type 0 where
  pub from : k ≤ p
  pub to : p ≤ suc k
  pub octet : p < e → rest s e k ≡ get_or s p 0 ∷ rest s e (suc p)
  pub none : e ≤ p → rest s e k ≡ []
