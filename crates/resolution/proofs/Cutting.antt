-- A path is cut behind its first segment, and the walk from the right goes through the two parts in turn. Assumes nothing.
use Prim.Native.Nat.{ℕ, suc, ◌-◌, ◌≤◌}
use native.Mathlib.Omega.{arith}
use mathlib.Core.Path.{◌≡◌, refl, sym, ap, ◌∙◌}
use mathlib.Core.Bool.{Bool, true, false, cond, ◌||◌}
use mathlib.Core.List.{List, [], ◌∷◌, ◌++◌}
use lib.Dec.{eqb}
use lib.ListN.{length}
use borrow.Author.Tests.{eqb-true}
use Rattle.octets.specs.Text.{octets}
use Rattle.references.specs.Components.{before, from}
use Rattle.references.proofs.Clear.{Free}
use Rattle.references.proofs.Whole.{before_from}
use Rattle.resolution.specs.Segments.{is_dots}
use Rattle.resolution.specs.Walking.{at_end, run, text}
use Rattle.resolution.proofs.Appended.{run_append, text_append}
use Rattle.resolution.proofs.Segment.{Settled, fresh, settled}

-- the `..` that wait left of w, and what w adds
abbrev pub waits : List ℕ → ℕ
waits w = (run w at_end).pending

abbrev pub adds : List ℕ → List ℕ
adds w = text w at_end

abbrev pub segment : List ℕ → List ℕ
segment w = before (octets "/") w

abbrev pub rest : List ℕ → List ℕ
rest w = from (octets "/") w

-- w is empty or begins with a slash
abbrev pub Rooted : List ℕ → Type 0
Rooted [] = Unit
Rooted (c ∷ w) = c ≡ 47

-- ---- the parts

pub segment_free : (w : List ℕ) → Free (octets "/") (segment w)
segment_free [] = tt
segment_free (c ∷ w) = go (eqb c 47 || false) refl (segment_free w)
  where
    go : (z : Bool) → (eqb c 47 || false) ≡ z → Free (octets "/") (segment w) → Free (octets "/") (cond z [] (c ∷ segment w))
    go true e f = tt
    go false e f = (e, f)

pub rest_rooted : (w : List ℕ) → Rooted (rest w)
rest_rooted [] = tt
rest_rooted (c ∷ w) = go (eqb c 47) refl (rest_rooted w)
  where
    go : (z : Bool) → eqb c 47 ≡ z → Rooted (rest w) → Rooted (cond (z || false) (c ∷ w) (rest w))
    go true e f = eqb-true c 47 e
    go false e f = f

pub rest_length : (w : List ℕ) → length (rest w) ≤ length w
rest_length [] = omega arith
rest_length (c ∷ w) = go (eqb c 47 || false) (rest_length w)
  where
    go : (z : Bool) → length (rest w) ≤ length w → length (cond z (c ∷ w) (rest w)) ≤ suc (length w)
    go true h = omega arith
    go false h = omega (arith, h)

-- ---- walked from the right

rooted_fresh : (v : List ℕ) → Rooted v → run v at_end ≡ fresh (waits v) (run v at_end).kept
rooted_fresh [] r = refl
rooted_fresh (c ∷ v) r = rw r refl

-- a first segment that is no dot segment is kept or dropped whole
pub rest_settled : (w : List ℕ) → is_dots (segment w) ≡ false → Settled (segment w) (run (rest w) at_end)
rest_settled w n =
    rw (rooted_fresh (rest w) (rest_rooted w)) (settled (waits (rest w)) (run (rest w) at_end).kept (segment w) (segment_free w) n)

-- w is walked from the right as its first segment is, behind what follows it
pub parted_run : (w : List ℕ) → run w at_end ≡ run (segment w) (run (rest w) at_end)
parted_run w = ap (λ (x : List ℕ). run x at_end) (sym (before_from (octets "/") w)) ∙ run_append (segment w) (rest w) at_end

pub parted_text : (w : List ℕ) → adds w ≡ text (segment w) (run (rest w) at_end) ++ adds (rest w)
parted_text w = ap (λ (x : List ℕ). text x at_end) (sym (before_from (octets "/") w)) ∙ text_append (segment w) (rest w) at_end

-- the slash before such a segment goes the same way
pub slash_waits : (w : List ℕ) → is_dots (segment w) ≡ false → waits (47 ∷ w) ≡ waits (rest w) - 1
slash_waits w n =
    let s = rest_settled w n in
    rw (parted_run w, s.no_dots, s.no_dot, s.waits) refl

pub slash_adds : (w : List ℕ) → is_dots (segment w) ≡ false
    → adds (47 ∷ w) ≡ cond (eqb (waits (rest w)) 0) (47 ∷ (segment w ++ adds (rest w))) (adds (rest w))
slash_adds w n =
    let s = rest_settled w n in
    rw (parted_text w, parted_run w, s.no_dot, s.no_dots, s.waits, s.adds) (pick (eqb (waits (rest w)) 0))
  where
    pick : (z : Bool)
        → cond z (47 ∷ []) [] ++ (cond z (segment w) [] ++ adds (rest w)) ≡ cond z (47 ∷ (segment w ++ adds (rest w))) (adds (rest w))
    pick true = refl
    pick false = refl
