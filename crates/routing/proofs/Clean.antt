-- A text without backslashes: its parts are read as they stand. Assumes nothing.
use Prim.Native.Nat.{ℕ, zero, suc, ◌+◌, ◌≤◌, ◌<◌}
use native.Mathlib.Omega.{arith}
use native.Mathlib.Numerals.{add-one}
use mathlib.Core.Path.{◌≡◌, sym, ap, ◌∙◌}
use mathlib.Core.List.{List, [], ◌∷◌}
use borrow.Author.Tests.{eqb-false}
use lib.ListN.{length, get_or, take}
use lib.Seq.{slice, take-length}
use Rattle.references.proofs.Clear.{Free}
use Rattle.bare.specs.Bare.{bare_of}
use Rattle.bare.proofs.Bare.{no_backslash, bare_free, bare_of_octet, bare_of_empty}

abbrev pub Clean : List ℕ → Type 0
Clean = Free (92 ∷ [])

take_clean : (k : ℕ) (w : List ℕ) → Clean w → Clean (take k w)
take_clean zero w f = tt
take_clean (suc k) [] f = tt
take_clean (suc k) (c ∷ w) f = (f.0, take_clean k w f.1)

pub front_clean : (w : List ℕ) (k : ℕ) → Clean w → slice 0 k w ≡ bare_of w 0 k
front_clean w k f = sym (bare_free (take k w) (take_clean k w f))

pub whole_clean : (w : List ℕ) → Clean w → bare_of w 0 (length w) ≡ w
whole_clean w f = rw (take-length w) (bare_free w f)

octet_clean : (w : List ℕ) (k : ℕ) → Clean w → k < length w → get_or w k 0 ≡ 92 → ⊥
octet_clean [] k f h = absurd (omega (arith, h))
octet_clean (c ∷ w) zero f h = eqb-false c 92 (no_backslash c f.0)
octet_clean (c ∷ w) (suc k) f h = octet_clean w k f.1 (omega (arith, h))

-- a part begins with the octet at its left end, and that octet by itself is a part
module _ (w : List ℕ) (k : ℕ) (f : Clean w) where
  pub begins : (e : ℕ) → k < e → e ≤ length w → bare_of w k e ≡ get_or w k 0 ∷ bare_of w (suc k) e
  begins e h l = bare_of_octet w k e h l (octet_clean w k f (omega (arith, h, l)))

  pub octet_alone : k < length w → bare_of w k (k + 1) ≡ get_or w k 0 ∷ []
  octet_alone h =
      rw (add-one k)
      (begins (suc k) (omega arith) (omega (arith, h)) ∙ ap (λ (t : List ℕ). get_or w k 0 ∷ t) (bare_of_empty w (suc k)))
