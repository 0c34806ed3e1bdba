-- What is read of a part of a text from a place on: its meaning, or its octets as they stand.
use Rattle.std.specs.Prelude.{ℕ, suc, ◌≤◌, ◌<◌, ◌≡◌, List, [], ◌∷◌, get_or, Option, Some, None}
use Rattle.std.proofs.Math.Seq.{slice}
use Rattle.values.specs.Rest.{rest}
use Rattle.kinds.specs.declared.Place.{Place}
use Rattle.units.specs.declared.Reading.{Reading}
use Rattle.units.specs.declared.Reading.TheVariants.{Unescaped, AsItStands}

-- from place k to place e, with the backslashes taken out or not
abbrev pub seen : Reading → List ℕ → ℕ → ℕ → List ℕ
seen Unescaped s e k = rest s e k
seen AsItStands s e k = slice k e s

-- the octet read at place k stands at place p, if one is left
pub record ReadAt (h : Reading) (s : List ℕ) (e k p : ℕ) : Type 0 where
  pub from : k ≤ p
  pub to : p ≤ suc k
  pub octet : p < e → seen h s e k ≡ get_or s p 0 ∷ seen h s e (suc p)
  pub none : e ≤ p → seen h s e k ≡ []

-- the octet c is read at place k, and place n is behind it
pub record ReadsOctet (h : Reading) (s : List ℕ) (e k c n : ℕ) : Type 0 where
  pub octet : seen h s e k ≡ c ∷ seen h s e n
  pub onward : k < n
  pub inside : n ≤ e

-- none is left
pub record ReadsNone (h : Reading) (s : List ℕ) (e k : ℕ) : Type 0 where
  pub none : seen h s e k ≡ []

-- the answer r tells which
abbrev pub Looked : Reading → List ℕ → ℕ → ℕ → Option (ℕ × Place) → Type 0
Looked h s e k (Some (c, n)) = ReadsOctet h s e k c n.0
Looked h s e k None = ReadsNone h s e k
