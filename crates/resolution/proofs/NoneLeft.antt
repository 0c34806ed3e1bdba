-- What the walk from the right adds has no dot segments, and behind a slash it begins with one. Assumes nothing.
use Prim.Native.Nat.{ℕ, zero, suc, ◌≤◌, ◌<◌}
use native.Mathlib.Omega.{arith}
use mathlib.Core.Path.{◌≡◌, refl, ap, ◌∙◌}
use mathlib.Core.Bool.{Bool, true, false, cond}
use mathlib.Core.List.{List, [], ◌∷◌, ◌++◌}
use lib.Dec.{eqb}
use lib.ListN.{length}
use Rattle.resolution.specs.Dots.{remove_dots}
use Rattle.resolution.specs.Segments.{is_dots, Dotless}
use Rattle.resolution.specs.Walking.{trimmed}
use Rattle.resolution.proofs.Agreeing.{from_the_right}
use Rattle.resolution.proofs.Cutting.{Rooted, waits, adds, segment, rest, segment_free, rest_rooted, rest_length}
use Rattle.resolution.proofs.Cutting.{rest_settled, parted_text}
use Rattle.resolution.proofs.First.{First, dot, dot_slash, dots, dots_slash, other, first, untrimmed}
use Rattle.resolution.proofs.Next.{Next, on, up, moved, next}
use Rattle.resolution.proofs.SegmentLists.{dotless_append}

record Clean (t : List ℕ) : Type 0 where
  tail : List ℕ
  begins : t ≡ 47 ∷ tail
  dotless : Dotless t

clean_rooted : (t : List ℕ) → Clean t → Rooted t
clean_rooted t h = rw h.begins refl

-- with the segment of w and a slash before it, or without
clean_moved : (w t : List ℕ) → is_dots (segment w) ≡ false → Clean t → (z : Bool) → Clean (cond z (47 ∷ (segment w ++ t)) t)
clean_moved w t n h true =
    record {
      tail = segment w ++ t;
      begins = refl;
      dotless = dotless_append (segment w) t (segment_free w) (clean_rooted t h) n h.dotless;
    }
clean_moved w t n h false = h

abbrev CleanTo : ℕ → Type 0
CleanTo n = (w : List ℕ) → length w < n → Clean (adds (47 ∷ w))

clean_next : (n : ℕ) → CleanTo n → CleanTo (suc n)
clean_next n more w l = go (next w)
  where
    behind : (v : List ℕ) → Rooted v → length v ≤ length w → is_dots (segment w) ≡ false
        → Clean (cond (eqb (waits v) 0) (47 ∷ (segment w ++ adds v)) (adds v))
    behind [] r h n =
        record { tail = segment w ++ []; begins = refl; dotless = dotless_append (segment w) [] (segment_free w) tt n refl }
    behind (c ∷ v) r h n = rw r (clean_moved w (adds (47 ∷ v)) n (more v (omega (arith, l, h))) (eqb (waits (47 ∷ v)) 0))

    go : Next w → Clean (adds (47 ∷ w))
    go (on v e p a h) = rw a (more v (omega (arith, l, h)))
    go (up v e p a h) = rw a (more v (omega (arith, l, h)))
    go (moved h p a) = rw a (behind (rest w) (rest_rooted w) (rest_length w) h.no_dots)

clean_to : (n : ℕ) → CleanTo n
clean_to zero w l = absurd (omega (arith, l))
clean_to (suc n) w l = clean_next n (clean_to n) w l

clean : (w : List ℕ) → Clean (adds (47 ∷ w))
clean w = clean_to (suc (length w)) w (omega arith)

-- ---- of any path

-- a path that is empty or has a slash first adds one that is so, without dots
rooted_dotless : (v : List ℕ) → Rooted v → Rooted (adds v) × Dotless (adds v)
rooted_dotless [] r = (tt, refl)
rooted_dotless (c ∷ v) r = rw r (clean_rooted (adds (47 ∷ v)) (clean v), (clean v).dotless)

other_dotless : (w : List ℕ) → is_dots (segment w) ≡ false → Dotless (adds w)
other_dotless w n = rw (parted_text w, (rest_settled w n).adds) (pick (eqb (waits (rest w)) 0))
  where
    pick : (z : Bool) → Dotless (cond z (segment w) [] ++ adds (rest w))
    pick true =
        let h = rooted_dotless (rest w) (rest_rooted w) in
        dotless_append (segment w) (adds (rest w)) (segment_free w) h.0 n h.1
    pick false = (rooted_dotless (rest w) (rest_rooted w)).1

adds_dotless : (w : List ℕ) → Dotless (adds w)
adds_dotless w = go (first w)
  where
    go : First w → Dotless (adds w)
    go (dot q) = rw q refl
    go (dot_slash v q) = rw q (clean v).dotless
    go (dots q) = rw q refl
    go (dots_slash v q) = rw q (clean v).dotless
    go (other h) = other_dotless w h.no_dots

-- ---- of the result

pub none_left : (w : List ℕ) → Dotless (remove_dots w)
none_left w = rw (from_the_right.same w) (adds_dotless (trimmed w))

pub slash_left : (w : List ℕ) → (v : List ℕ) × (remove_dots (47 ∷ w) ≡ 47 ∷ v)
slash_left w =
    ((clean w).tail, from_the_right.same (47 ∷ w) ∙ ap adds (untrimmed 47 w refl) ∙ (clean w).begins)
