-- A path is without dot segments just if its first segment is none and what follows it has none. Assumes nothing.
use Prim.Native.Nat.{ℕ}
use mathlib.Core.Path.{◌≡◌, refl, sym, ◌∙◌}
use mathlib.Core.Bool.{false, not, ◌&&◌}
use mathlib.Core.List.{List, [], ◌∷◌, ◌++◌}
use lib.Dec.{eqb}
use borrow.Author.Tests.{not-true}
use Rattle.octets.specs.Text.{octets}
use Rattle.references.proofs.Clear.{Free}
use Rattle.references.proofs.Whole.{before_from}
use Rattle.rules.proofs.Lefts.{both}
use Rattle.resolution.specs.Segments.{segments, is_dots, none_dots, Dotless}
use Rattle.resolution.proofs.Cutting.{Rooted, segment, rest, segment_free, rest_rooted}
use Rattle.resolution.proofs.Segment.{no_slash}

-- the segments behind the first, empty one of a path with a slash first
abbrev later : List ℕ → List (List ℕ)
later [] = []
later (c ∷ t) = segments t

segments_append : (u t : List ℕ) → Free (octets "/") u → Rooted t → segments (u ++ t) ≡ u ∷ later t
segments_append [] [] f r = refl
segments_append [] (c ∷ t) f r = rw r refl
segments_append (c ∷ u) t f r = rw (no_slash (eqb c 47) f.0, segments_append u t f.1 r) refl

later_dotless : (t : List ℕ) → Rooted t → none_dots (later t) ≡ none_dots (segments t)
later_dotless [] r = refl
later_dotless (c ∷ t) r = rw r refl

parted : (u t : List ℕ) → Free (octets "/") u → Rooted t → none_dots (segments (u ++ t)) ≡ (not (is_dots u) && none_dots (segments t))
parted u t f r = rw (segments_append u t f r, later_dotless t r) refl

pub dotless_append : (u t : List ℕ) → Free (octets "/") u → Rooted t → is_dots u ≡ false → Dotless t → Dotless (u ++ t)
dotless_append u t f r n d = parted u t f r ∙ rw (n, d) refl

-- of a path w: its first segment is no dot segment, and the rest is without any
pub dotless_parts : (w : List ℕ) → Dotless w → (is_dots (segment w) ≡ false) × Dotless (rest w)
dotless_parts w d =
    let e = parted (segment w) (rest w) (segment_free w) (rest_rooted w) in
    let h = both (not (is_dots (segment w))) (none_dots (segments (rest w))) (sym e ∙ rw (before_from (octets "/") w) d) in
    (not-true (is_dots (segment w)) h.0, h.1)
