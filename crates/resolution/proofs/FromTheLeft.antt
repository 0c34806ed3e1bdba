-- Steps A to E on a path from the left come to what the walk from its right end adds. Assumes nothing.
use Prim.Native.Nat.{ℕ, zero, suc, ◌-◌, ◌≤◌}
use native.Mathlib.Omega.{arith}
use mathlib.Core.Path.{◌≡◌, refl, ap, ◌∙◌}
use mathlib.Core.Bool.{cond}
use mathlib.Core.List.{List, [], ◌∷◌, ◌++◌, reverse_aux}
use lib.Dec.{eqb, eqb-suc-zero}
use lib.ListN.{length}
use Rattle.octets.specs.Text.{octets}
use Rattle.references.proofs.Clear.{Free}
use Rattle.resolution.specs.Dots.{Step, go_on, go_up, move, step_on, pop, loop}
use Rattle.resolution.proofs.Cutting.{Rooted, waits, adds, segment, rest, segment_free, rest_rooted, rest_length}
use Rattle.resolution.proofs.Next.{Next, on, up, moved, next}
use Rattle.resolution.proofs.Segment.{no_slash}

-- the output o without its last p segments
abbrev pub pops : ℕ → List ℕ → List ℕ
pops zero o = o
pops (suc p) o = pops p (pop o)

-- the result behind the step s
abbrev then : ℕ → List ℕ → Step → List ℕ
then n o s = elim s [ go_on v ↦ loop n v o | go_up v ↦ loop n v (pop o) | move u v ↦ loop n v (reverse_aux u o) ]

pub by_step : (n c : ℕ) (w o : List ℕ) (s : Step) → step_on (c ∷ w) ≡ s → loop (suc n) (c ∷ w) o ≡ then n o s
by_step n c w o s e = ap (then n o) e

pub reversed_twice : (s r t : List ℕ) → reverse_aux (reverse_aux s r) t ≡ reverse_aux r (s ++ t)
reversed_twice [] r t = refl
reversed_twice (x ∷ s) r t = reversed_twice s (x ∷ r) t

-- a segment that was moved goes, and what lies left of it loses its own last one
pub pop_free : (u o : List ℕ) → Free (octets "/") u → pop (reverse_aux u o) ≡ pop o
pop_free [] o f = refl
pop_free (c ∷ u) o f = pop_free u (c ∷ o) f.1 ∙ rw (no_slash (eqb c 47) f.0) refl

less_one : (p : ℕ) → suc p - 1 ≡ p
less_one p = omega arith

-- A segment with its slash that was moved stays if no `..` waits on its right, else it goes
kept_or_popped : (u o t : List ℕ) (p : ℕ) → Free (octets "/") u
    → reverse_aux (pops p (reverse_aux (47 ∷ u) o)) t ≡ reverse_aux (pops (p - 1) o) (cond (eqb p 0) (47 ∷ (u ++ t)) t)
kept_or_popped u o t zero f = reversed_twice (47 ∷ u) o t
kept_or_popped u o t (suc p) f = rw (eqb-suc-zero p, pop_free u (47 ∷ o) f, less_one p) refl

-- ---- a path with a slash first

abbrev pub Comes : ℕ → Type 0
Comes n = (w o : List ℕ) → length w ≤ n → Rooted w → loop n w o ≡ reverse_aux (pops (waits w) o) (adds w)

comes_next : (n : ℕ) (w o : List ℕ) → length w ≤ n → Comes n
    → loop (suc n) (47 ∷ w) o ≡ reverse_aux (pops (waits (47 ∷ w)) o) (adds (47 ∷ w))
comes_next n w o l more = go (next w)
  where
    go : Next w → loop (suc n) (47 ∷ w) o ≡ reverse_aux (pops (waits (47 ∷ w)) o) (adds (47 ∷ w))
    go (on v e p a h) = by_step n 47 w o (go_on (47 ∷ v)) e ∙ rw (p, a) (more (47 ∷ v) o (omega (arith, l, h)) refl)
    go (up v e p a h) = by_step n 47 w o (go_up (47 ∷ v)) e ∙ rw (p, a) (more (47 ∷ v) (pop o) (omega (arith, l, h)) refl)
    go (moved h p a) =
        by_step n 47 w o (move (47 ∷ segment w) (rest w)) h.moved
        ∙ more (rest w) (reverse_aux (47 ∷ segment w) o) (omega (arith, l, rest_length w)) (rest_rooted w)
        ∙ rw (p, a) (kept_or_popped (segment w) o (adds (rest w)) (waits (rest w)) (segment_free w))

pub comes : (n : ℕ) → Comes n
comes zero [] o l r = refl
comes zero (c ∷ w) o l r = absurd (omega (arith, l))
comes (suc n) [] o l r = refl
comes (suc n) (c ∷ w) o l r = rw r (comes_next n w o (omega (arith, l)) (comes n))
