-- Of a path with a slash first: the step that is made on it from the left, and what comes to the same from the right. Assumes nothing.
use Prim.Native.Nat.{ℕ, suc, ◌-◌, ◌<◌}
use native.Mathlib.Omega.{arith}
use native.Mathlib.Nat.{add-zero}
use native.Mathlib.Numerals.{add-one}
use mathlib.Core.Path.{◌≡◌, refl}
use mathlib.Core.Bool.{cond}
use mathlib.Core.List.{List, [], ◌∷◌, ◌++◌}
use lib.Dec.{eqb}
use lib.ListN.{length}
use Rattle.resolution.specs.Dots.{go_on, go_up, step_on}
use Rattle.resolution.specs.Walking.{at_end, run}
use Rattle.resolution.proofs.Cutting.{waits, adds, segment, rest, slash_waits, slash_adds}
use Rattle.resolution.proofs.First.{First, Other, dot, dot_slash, dots, dots_slash, other, first}
use Rattle.resolution.proofs.Keeping.{kept_behind_slash}

pub data Next (w : List ℕ) : Type 0 where
  on : (v : List ℕ) → step_on (47 ∷ w) ≡ go_on (47 ∷ v) → waits (47 ∷ w) ≡ waits (47 ∷ v) → adds (47 ∷ w) ≡ adds (47 ∷ v)
      → length v < length w → Next w
  up : (v : List ℕ) → step_on (47 ∷ w) ≡ go_up (47 ∷ v) → waits (47 ∷ w) ≡ suc (waits (47 ∷ v)) → adds (47 ∷ w) ≡ adds (47 ∷ v)
      → length v < length w → Next w
  moved : Other w → waits (47 ∷ w) ≡ waits (rest w) - 1
      → adds (47 ∷ w) ≡ cond (eqb (waits (rest w)) 0) (47 ∷ (segment w ++ adds (rest w))) (adds (rest w)) → Next w

dot_adds : (v : List ℕ) → adds (47 ∷ 46 ∷ 47 ∷ v) ≡ adds (47 ∷ v)
dot_adds v = rw (add-zero (run (47 ∷ v) at_end).kept, kept_behind_slash v) refl

dots_adds : (v : List ℕ) → adds (47 ∷ 46 ∷ 46 ∷ 47 ∷ v) ≡ adds (47 ∷ v)
dots_adds v =
    let k = add-zero (run (47 ∷ v) at_end).kept in
    rw (k, k, kept_behind_slash v) refl

pub next : (w : List ℕ) → Next w
next w = go (first w)
  where
    go : First w → Next w
    go (dot q) = rw q (on [] refl refl refl (omega arith))
    go (dot_slash v q) = rw q (on v refl refl (dot_adds v) (omega arith))
    go (dots q) = rw q (up [] refl refl refl (omega arith))
    go (dots_slash v q) = rw q (up v refl (add-one (waits (47 ∷ v))) (dots_adds v) (omega arith))
    go (other h) = moved h (slash_waits w h.no_dots) (slash_adds w h.no_dots)
