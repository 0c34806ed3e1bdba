-- Dots removed from the left are those that the walk from the right leaves out, once a path's leading ones are trimmed. Assumes nothing.
use Prim.Native.Nat.{ℕ, zero, suc, ◌≤◌}
use native.Mathlib.Omega.{arith}
use mathlib.Core.Path.{◌≡◌, refl, sym, ap, ◌∙◌}
use mathlib.Core.Bool.{Bool, true, false, cond}
use mathlib.Core.List.{List, [], ◌∷◌, ◌++◌, reverse_aux}
use lib.Dec.{eqb, eqb-suc-zero}
use lib.ListN.{length}
use borrow.Author.Tests.{eqb-true}
use Rattle.octets.specs.Text.{octets}
use Rattle.references.proofs.Clear.{Free}
use Rattle.resolution.specs.Dots.{move, step_on, loop}
use Rattle.resolution.specs.Laws.{FromTheRight}
use Rattle.resolution.specs.Walking.{at_end, trimmed}
use Rattle.resolution.proofs.First.{First, Other, dot, dot_slash, dots, dots_slash, other, first}
use Rattle.resolution.proofs.Appended.{kept_text}
use Rattle.resolution.proofs.FromTheLeft.{pops, by_step, reversed_twice, pop_free, comes}
use Rattle.resolution.proofs.Cutting.{waits, adds, segment, rest, segment_free, rest_rooted, rest_length, rest_settled, parted_text}

pops_nothing : (p : ℕ) → pops p [] ≡ []
pops_nothing zero = refl
pops_nothing (suc p) = pops_nothing p

-- the path's first segment, without a slash, stays if no `..` waits on its right, else it goes
first_or_nothing : (u t : List ℕ) (p : ℕ) → Free (octets "/") u → reverse_aux (pops p (reverse_aux u [])) t ≡ cond (eqb p 0) u [] ++ t
first_or_nothing u t zero f = reversed_twice u [] t
first_or_nothing u t (suc p) f = rw (eqb-suc-zero p, pop_free u [] f, pops_nothing p) refl

-- ---- by the first segment

agrees_segment : (n c : ℕ) (w : List ℕ) → length w ≤ n → eqb c 47 ≡ false → Other (c ∷ w) → loop (suc n) (c ∷ w) [] ≡ adds (c ∷ w)
agrees_segment n c w l e h =
    let u = segment (c ∷ w) in
    let v = rest (c ∷ w) in
    let m : step_on (c ∷ w) ≡ move u v = h.moved_first e ∙ rw e refl in
    let s : length v ≤ n = rw e (omega (arith, l, rest_length w)) in
    by_step n c w [] (move u v) m
    ∙ comes n v (reverse_aux u []) s (rest_rooted (c ∷ w))
    ∙ first_or_nothing u (adds v) (waits v) (segment_free (c ∷ w))
    ∙ ap (λ (x : List ℕ). x ++ adds v) (sym (rest_settled (c ∷ w) h.no_dots).adds)
    ∙ sym (parted_text (c ∷ w))

agrees_other : (n : ℕ) (w : List ℕ) → length w ≤ suc n → Other w → loop (suc n) w [] ≡ adds w
agrees_other n [] l h = refl
agrees_other n (c ∷ w) l h = go (eqb c 47) refl
  where
    go : (z : Bool) → eqb c 47 ≡ z → loop (suc n) (c ∷ w) [] ≡ adds (c ∷ w)
    go true e =
        comes (suc n) (c ∷ w) [] l (eqb-true c 47 e) ∙ ap (λ (o : List ℕ). reverse_aux o (adds (c ∷ w))) (pops_nothing (waits (c ∷ w)))
    go false e = agrees_segment n c w (omega (arith, l)) e h

trimmed_dot : (v : List ℕ) → trimmed (46 ∷ 47 ∷ v) ≡ trimmed v
trimmed_dot [] = refl
trimmed_dot (c ∷ v) = refl

abbrev Agrees : ℕ → Type 0
Agrees n = (w : List ℕ) → length w ≤ n → loop n w [] ≡ adds (trimmed w)

agrees_next : (n : ℕ) → Agrees n → Agrees (suc n)
agrees_next n more w l = go (first w)
  where
    go : First w → loop (suc n) w [] ≡ adds (trimmed w)
    go (dot q) = rw q (more [] (omega arith))
    go (dot_slash v q) = rw (q, trimmed_dot v) (more v (let k : suc (suc (length v)) ≤ suc n = rw q at l in omega (arith, k)))
    go (dots q) = rw q (more [] (omega arith))
    go (dots_slash v q) = rw q (more v (let k : suc (suc (suc (length v))) ≤ suc n = rw q at l in omega (arith, k)))
    go (other h) = rw h.whole (agrees_other n w l h)

agrees : (n : ℕ) → Agrees n
agrees zero [] l = refl
agrees zero (c ∷ w) l = absurd (omega (arith, l))
agrees (suc n) w l = agrees_next n (agrees n) w l

-- ---- the law

pub from_the_right : FromTheRight
from_the_right =
    record { same = λ w. agrees (length w) w (omega arith); counted = λ w. omega (arith, kept_text w at_end) }
