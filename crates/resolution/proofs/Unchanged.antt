-- A path without dot segments stays as it is. Assumes nothing.
use Prim.Native.Nat.{ℕ, zero, suc, ◌≤◌}
use native.Mathlib.Omega.{arith}
use mathlib.Core.Path.{◌≡◌, refl, ap, ◌∙◌}
use mathlib.Core.Bool.{false, true≢false}
use mathlib.Core.List.{List, [], ◌∷◌}
use lib.ListN.{length}
use Rattle.octets.specs.Text.{octets}
use Rattle.references.proofs.Whole.{before_from}
use Rattle.resolution.specs.Dots.{remove_dots}
use Rattle.resolution.specs.Laws.{DotsRemoved}
use Rattle.resolution.specs.Segments.{is_dots, Dotless}
use Rattle.resolution.specs.Walking.{trimmed}
use Rattle.resolution.proofs.Agreeing.{from_the_right}
use Rattle.resolution.proofs.Cutting.{Rooted, waits, adds, segment, rest, rest_rooted, rest_length, rest_settled}
use Rattle.resolution.proofs.Cutting.{parted_text, slash_waits, slash_adds}
use Rattle.resolution.proofs.First.{First, dot, dot_slash, dots, dots_slash, other, first}
use Rattle.resolution.proofs.NoneLeft.{none_left}
use Rattle.resolution.proofs.SegmentLists.{dotless_parts}

-- nothing waits left of w, and all of it is added
record Stays (w : List ℕ) : Type 0 where
  waits : waits w ≡ 0
  adds : adds w ≡ w

slash_stays : (w : List ℕ) → is_dots (segment w) ≡ false → Stays (rest w) → Stays (47 ∷ w)
slash_stays w n h =
    record {
      waits = slash_waits w n ∙ rw h.waits refl;
      adds = slash_adds w n ∙ rw (h.waits, h.adds) (ap {B = List ℕ} (λ x. 47 ∷ x) (before_from (octets "/") w));
    }

stays : (n : ℕ) (w : List ℕ) → length w ≤ n → Rooted w → Dotless w → Stays w
stays zero [] l r d = record { waits = refl; adds = refl }
stays zero (c ∷ w) l r d = absurd (omega (arith, l))
stays (suc n) [] l r d = record { waits = refl; adds = refl }
stays (suc n) (c ∷ w) l r d =
    let h = dotless_parts w (rw r at d) in
    rw r (slash_stays w h.0 (stays n (rest w) (omega (arith, l, rest_length w)) (rest_rooted w) h.1))

nothing_trimmed : (w : List ℕ) → is_dots (segment w) ≡ false → trimmed w ≡ w
nothing_trimmed w n = go (first w)
  where
    go : First w → trimmed w ≡ w
    go (dot q) = absurd (true≢false (rw q at n))
    go (dot_slash v q) = absurd (true≢false (rw q at n))
    go (dots q) = absurd (true≢false (rw q at n))
    go (dots_slash v q) = absurd (true≢false (rw q at n))
    go (other h) = h.whole

pub nothing_else : (w : List ℕ) → Dotless w → remove_dots w ≡ w
nothing_else w d =
    let h = dotless_parts w d in
    let s = stays (length (rest w)) (rest w) (omega arith) (rest_rooted w) h.1 in
    from_the_right.same w
    ∙ ap adds (nothing_trimmed w h.0)
    ∙ parted_text w
    ∙ rw ((rest_settled w h.0).adds, s.waits, s.adds) (before_from (octets "/") w)

pub dots_removed : DotsRemoved
dots_removed =
    record {
      none_left = none_left;
      nothing_else = nothing_else;
      once = λ w. nothing_else (remove_dots w) (none_left w);
    }
