-- What is left of a meaning at place k, each octet with a backslash where it needs one.
use Prim.Native.Nat.{ℕ, suc, ◌<◌, ◌≤◌}
use mathlib.Core.Path.{◌≡◌, refl, ap, ◌∙◌}
use mathlib.Core.Bool.{Bool, true, false, cond, ◌||◌}
use mathlib.Core.List.{List, [], ◌∷◌, ◌++◌}
use lib.Dec.{eqb}
use lib.ListN.{get_or}
use Rattle.tables.specs.Written.{escape_octet, escape}
use Rattle.values.specs.Rest.{rest, Meant}
use Rattle.values.proofs.Meant.{none_left}

module _ (c : ℕ) where
  pub with_backslash : (eqb c 34 || eqb c 92) ≡ true → escape_octet c [] ≡ 92 ∷ c ∷ []
  with_backslash t = rw t

  pub without_backslash : (eqb c 34 || eqb c 92) ≡ false → escape_octet c [] ≡ c ∷ []
  without_backslash t = rw t

escape_front : (b : Bool) (c : ℕ) (r : List ℕ) → cond b (92 ∷ c ∷ r) (c ∷ r) ≡ cond b (92 ∷ c ∷ []) (c ∷ []) ++ r
escape_front true c r = refl
escape_front false c r = refl

-- what is left at place k
abbrev pub escaped_part : List ℕ → ℕ → ℕ → List ℕ
escaped_part s e k = escape (rest s e k)

module _ {s : List ℕ} {e k p : ℕ} (m : Meant s e k p) where
  pub escaped_next : p < e → escaped_part s e k ≡ escape_octet (get_or s p 0) [] ++ escaped_part s e (suc p)
  escaped_next l =
      ap escape (m.octet l) ∙ escape_front (eqb (get_or s p 0) 34 || eqb (get_or s p 0) 92) (get_or s p 0) (escaped_part s e (suc p))

  pub escaped_none : e ≤ p → escaped_part s e k ≡ []
  escaped_none l = ap escape (m.none l)

pub escaped_end : (s : List ℕ) {e k : ℕ} → e ≤ k → escaped_part s e k ≡ []
escaped_end s l = ap escape (none_left s l)
