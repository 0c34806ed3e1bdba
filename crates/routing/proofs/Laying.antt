-- A result by its plan, laid out. Assumes nothing.
use Prim.Native.Nat.{ℕ, ◌≤◌, ◌<◌}
use native.Mathlib.Omega.{arith}
use mathlib.Core.Path.{◌≡◌, refl, sym, ap, ◌∙◌}
use mathlib.Core.List.{List, [], ◌++◌}
use lib.ListN.{length}
use lib.Seq.{slice}
use Rattle.kinds.specs.declared.Place.{Place}
use Rattle.kinds.specs.declared.Span.{Span}
use Rattle.tables.specs.Good.{InText}
use Rattle.references.specs.Components.{split}
use Rattle.resolution.specs.Walking.{at_end, text, trimmed}
use Rattle.resolution.proofs.Agreeing.{from_the_right}
use Rattle.bare.specs.Bare.{bare_of}
use Rattle.bare.proofs.Bare.{bare_of_none}
use Rattle.leading_dots.specs.Leads.{Trims}
use Rattle.components.specs.Cuts.{CutsOf}
use Rattle.components.specs.declared.Cuts.{Cuts}
use Rattle.routes.specs.Laid.{part, Lies}
use Rattle.routing.specs.Plans.{route_of, Plans}
use Rattle.routing.specs.Routed.{Routed}
use Rattle.routing.specs.declared.Plan.{Plan}
use Rattle.routing.proofs.Clean.{Clean, begins}
use Rattle.routing.proofs.Lefts.{to_path, from_query}
use Rattle.routing.proofs.TwoTexts.{trimming}

module _ (base s : List ℕ) (at : Span) (r : Cuts) (p : Plan) (t : InText s at.from.0 at.to.0)
    (k : CutsOf s at.from.0 at.to.0 r) (q : Plans base (part s at) p) (g : Place)
    (m : Trims base p.folder.from.0 p.folder.to.0 g.0) where
  abbrev left : List ℕ
  left = part base p.folder

  abbrev own : List ℕ
  own = (split (part s at)).path

  lies : (o : Place) → r.path.0 ≤ o.0 → o.0 ≤ r.query.0 → Lies base s (route_of at r p g o)
  lies o h l =
      record {
        head = q.head;
        front =
            record {
              ordered = omega (arith, k.in_order, k.scheme_after, k.path_after);
              inside = omega (arith, k.query_after, k.fragment_after, k.in_part, t.inside);
            };
        folder = record { ordered = m.to; inside = q.folder.inside };
        own = record { ordered = l; inside = omega (arith, k.fragment_after, k.in_part, t.inside) };
        tail = record { ordered = omega (arith, k.fragment_after, k.in_part); inside = t.inside };
      }

  -- the path's places are those of the path without the dots that it begins with
  routed : (o : Place) → r.path.0 ≤ o.0 → o.0 ≤ r.query.0
      → bare_of base g.0 p.folder.to.0 ++ bare_of s o.0 r.query.0 ≡ trimmed (left ++ own)
      → Routed base s at.from.0 at.to.0 (route_of at r p g o)
  routed o h l e =
      let x = from_the_right.same (left ++ own) ∙ ap (λ (u : List ℕ). text u at_end) (sym e) in
      record {
        lies = lies o h l;
        result = q.result ∙ three (slice 0 p.head.0 base) (sym (to_path k)) x (sym (from_query k));
      }
    where
      three : (y : List ℕ) {a b c d u v : List ℕ} → a ≡ b → c ≡ d → u ≡ v → y ++ (a ++ (c ++ u)) ≡ y ++ (b ++ (d ++ v))
      three y i j n = rw (i, j, n) refl

  -- all of the folder goes
  pub own_trimmed : p.folder.to.0 ≤ g.0 → (o : Place) → Trims s r.path.0 r.query.0 o.0
      → Routed base s at.from.0 at.to.0 (route_of at r p g o)
  own_trimmed h o n =
      let y = bare_of_none base g.0 p.folder.to.0 h in
      let z : bare_of s o.0 r.query.0 ≡ trimmed own = n.trimmed ∙ ap trimmed k.path in
      routed o n.from n.to
      (rw (y, z) (sym ((trimming left own q.closed).all_goes (sym m.trimmed ∙ y))))

  -- some of it stays
  pub own_whole : Clean base → g.0 < p.folder.to.0
      → Routed base s at.from.0 at.to.0 (route_of at r p g r.path)
  own_whole f h =
      let y = begins base g.0 f p.folder.to.0 h q.folder.inside in
      let n : trimmed left ≡ [] → ⊥ = λ z. absurd (omega (arith, ap length (sym y ∙ m.trimmed ∙ z))) in
      routed r.path (omega arith) k.query_after
      (rw (m.trimmed, k.path) (sym ((trimming left own q.closed).some_stays n)))
