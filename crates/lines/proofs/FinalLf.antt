-- The last octet tells whether a text ends with LF. Assumes nothing.
use Prim.Native.Nat.{ℕ, zero, suc}
use native.Mathlib.Nat.{suc_inj}
use native.Mathlib.Omega.{arith}
use mathlib.Core.Bool.{true, false}
use mathlib.Core.List.{List, [], ◌∷◌}
use mathlib.Core.Path.{◌≡◌, refl, ap}
use lib.Dec.{eqb}
use lib.ListN.{length, take, get_or}
use Rattle.lines.specs.FinalLf.{without_final_lf}

-- m is the place of the last octet
pub lf_cut : (s : List ℕ) (m : ℕ) → length s ≡ suc m → eqb (get_or s m 0) 10 ≡ true → take m s ≡ without_final_lf s
unfolding without_final_lf
lf_cut [] m h e = absurd (omega arith)
lf_cut (c ∷ []) zero h e = rw e
lf_cut (c ∷ []) (suc m) h e = absurd (omega arith)
lf_cut (c ∷ d ∷ s) zero h e = absurd (omega arith)
lf_cut (c ∷ d ∷ s) (suc m) h e = ap (λ (x : List ℕ). c ∷ x) (lf_cut (d ∷ s) m (suc_inj h) e)

pub no_lf : (s : List ℕ) (m : ℕ) → length s ≡ suc m → eqb (get_or s m 0) 10 ≡ false → s ≡ without_final_lf s
unfolding without_final_lf
no_lf [] m h e = absurd (omega arith)
no_lf (c ∷ []) zero h e = rw e
no_lf (c ∷ []) (suc m) h e = absurd (omega arith)
no_lf (c ∷ d ∷ s) zero h e = absurd (omega arith)
no_lf (c ∷ d ∷ s) (suc m) h e = ap (λ (x : List ℕ). c ∷ x) (no_lf (d ∷ s) m (suc_inj h) e)

pub no_octets : (s : List ℕ) → length s ≡ 0 → s ≡ without_final_lf s
unfolding without_final_lf
no_octets [] h = refl
no_octets (c ∷ s) h = absurd (omega arith)
