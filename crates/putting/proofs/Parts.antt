-- What is left of a part at place k, as it stands or folded. Assumes nothing.
use Prim.Native.Nat.{ℕ, suc, ◌+◌, ◌≤◌, ◌<◌}
use native.Mathlib.Numerals.{add-one}
use native.Mathlib.Omega.{arith}
use mathlib.Core.Path.{◌≡◌, refl, sym, ap, ◌∙◌}
use mathlib.Core.Bool.{Bool, false}
use mathlib.Core.List.{List, [], ◌∷◌, map}
use lib.ListN.{length, get_or, length-map}
use lib.Seq.{slice, slice_empty, slice-cons}
use Rattle.putting.specs.Spelt.{spelt}

pub as_it_stands : (v : List ℕ) → map (spelt false) v ≡ v
as_it_stands [] = refl
as_it_stands (c ∷ v) = ap (λ (r : List ℕ). c ∷ r) (as_it_stands v)

pub spelt_length : (folding : Bool) (v : List ℕ) → length (map (spelt folding) v) ≡ length v
spelt_length folding v = length-map v (spelt folding)

module _ (folding : Bool) (s : List ℕ) (e : ℕ) where
  abbrev pub spelt_part : ℕ → List ℕ
  spelt_part k = map (spelt folding) (slice k e s)

  pub part_next : {k : ℕ} → k < e → e ≤ length s → {d : ℕ} → d ≡ spelt folding (get_or s k 0) → spelt_part k ≡ d ∷ spelt_part (k + 1)
  part_next {k} l h q = rw (add-one k) (ap (map (spelt folding)) (slice-cons k e s 0 l h) ∙ ap (λ (d : ℕ). d ∷ spelt_part (suc k)) (sym q))

  pub part_end : {k : ℕ} → k ≤ e → e ≤ k → spelt_part k ≡ []
  part_end {k} i l = let q : k ≡ e = omega arith in rw q (ap (map (spelt folding)) (slice_empty e s))
