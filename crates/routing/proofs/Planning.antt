-- What a base gives to a reference, by the components that the reference has. Assumes nothing.
use Prim.Native.Nat.{ℕ, ◌≤◌, ◌<◌}
use native.Mathlib.Omega.{arith}
use mathlib.Core.Path.{◌≡◌, sym, ap, subst, ◌∙◌}
use mathlib.Core.List.{List, []}
use mathlib.Core.Option.{none}
use lib.ListN.{length, get_or}
use lib.Seq.{slice}
use Rattle.kinds.specs.declared.Place.{Place}
use Rattle.kinds.specs.declared.Span.{Span}
use Rattle.references.specs.Components.{split}
use Rattle.resolution.specs.Laws.{left_of_path}
use Rattle.resolution.specs.Resolve.{resolved}
use Rattle.bare.specs.Bare.{bare_of}
use Rattle.bare.proofs.Bare.{bare_of_empty}
use Rattle.components.specs.Cuts.{CutsInto, CutsOf}
use Rattle.components.specs.declared.Cuts.{Cuts}
use Rattle.routes.specs.Laid.{part}
use Rattle.routing.specs.Folders.{Closed, root, Roots}
use Rattle.routing.specs.Plans.{shape, up_to, Plans}
use Rattle.routing.proofs.Shapes as shapes
use Rattle.routing.proofs.Clean.{Clean, front_clean}
use Rattle.routing.proofs.Lefts.{to_scheme, to_path, to_query, to_fragment}

-- the base up to place k is h, and u is put before the path
planned : (base w : List ℕ) (k : ℕ) (h x u : List ℕ) → Clean base → bare_of base 0 k ≡ h → x ≡ u → resolved base w ≡ shape h u (split w)
    → resolved base w ≡ shape (slice 0 k base) x (split w)
planned base w k h x u f p q g =
    g ∙ ap (λ (t : List ℕ). shape t u (split w)) (sym (front_clean base k f ∙ p))
    ∙ ap (λ (t : List ℕ). shape (slice 0 k base) t (split w)) (sym q)

module _ (base s : List ℕ) (a e : ℕ) (b r : Cuts) (f : Clean base) (kb : CutsInto base 0 (length base) b (split base))
    (kr : CutsOf s a e r) where
  abbrev w : List ℕ
  w = bare_of s a e

  keeps : (k : Place) (h : List ℕ) → k.0 ≤ length base → bare_of base 0 k.0 ≡ h → resolved base w ≡ shape h [] (split w)
      → Plans base w (up_to k)
  keeps k h l p g =
      record {
        head = l;
        folder = record { ordered = omega arith; inside = l };
        closed = subst Closed (sym (bare_of_empty base k.0)) tt;
        result = planned base w k.0 h (bare_of base k.0 k.0) [] f p (bare_of_empty base k.0) g;
      }

  pub by_scheme : (r.scheme.0 ≡ r.from.0 → ⊥) → Plans base w (up_to (record { 0 = 0 }))
  by_scheme n =
      keeps (record { 0 = 0 }) [] (omega arith) (bare_of_empty base 0) (shapes.own_scheme (split base) (split w) (kr.some_scheme n))

  module _ (m : r.scheme.0 ≡ r.from.0) where
    pub by_authority : (r.path.0 ≡ r.scheme.0 → ⊥) → Plans base w (up_to b.scheme)
    by_authority n =
        keeps b.scheme _ (omega (arith, kb.path_after, kb.query_after, kb.fragment_after, kb.in_part)) (to_scheme kb)
        (shapes.own_authority (split base) (split w) (kr.no_scheme m) (kr.some_authority n))

    module _ (n : r.path.0 ≡ r.scheme.0) where
      abbrev no_scheme : (split w).scheme ≡ none
      no_scheme = kr.no_scheme m

      abbrev no_authority : (split w).authority ≡ none
      no_authority = kr.no_authority n

      abbrev before_path : b.path.0 ≤ length base
      before_path = omega (arith, kb.query_after, kb.fragment_after, kb.in_part)

      pub by_query : r.query.0 ≤ r.path.0 → r.query.0 < r.fragment.0 → Plans base w (up_to b.query)
      by_query h l =
          keeps b.query _ (omega (arith, kb.fragment_after, kb.in_part)) (to_query kb)
          (shapes.own_query (split base) (split w) no_scheme no_authority (kr.no_path (omega (arith, h, kr.query_after)))
          (kr.some_query (λ q. absurd (omega (arith, l, q)))))

      pub by_nothing : r.query.0 ≤ r.path.0 → r.fragment.0 ≤ r.query.0 → Plans base w (up_to b.fragment)
      by_nothing h l =
          keeps b.fragment _ kb.in_part (to_fragment kb)
          (shapes.no_query (split base) (split w) no_scheme no_authority (kr.no_path (omega (arith, h, kr.query_after)))
          (kr.no_query (omega (arith, l, kr.fragment_after))))

      module _ (h : r.path.0 < r.query.0) where
        pub by_slash : get_or s r.path.0 0 ≡ 47 → Plans base w (up_to b.path)
        by_slash c =
            let z = kr.first h in
            keeps b.path _ before_path (to_path kb)
            (shapes.rooted (split base) (split w) no_scheme no_authority _ z.0 z.1 c)

        pub by_merge : (get_or s r.path.0 0 ≡ 47 → ⊥) → (u : Span) → Roots base (split base) u
            → Plans base w (record { head = b.path; folder = u })
        by_merge c u t =
            let z = kr.first h in
            record {
              head = before_path;
              folder = t.inside;
              closed = t.closed;
              result =
                  planned base w b.path.0 (left_of_path (split base)) (part base u) (root (split base).authority (split base).path) f
                  (to_path kb) t.root (shapes.merged (split base) (split w) no_scheme no_authority _ z.0 z.1 c);
            }
