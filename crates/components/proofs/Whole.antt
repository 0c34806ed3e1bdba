-- The cuts one behind another are the components of the whole text. Assumes nothing.
use Prim.Native.Nat.{ℕ, suc, ◌≤◌, ◌<◌}
use native.Mathlib.Omega.{arith}
use mathlib.Core.Path.{◌≡◌, refl, sym, subst, ◌∙◌}
use mathlib.Core.List.{List, ◌∷◌}
use lib.ListN.{length, get_or}
use Rattle.octets.specs.Text.{octets}
use Rattle.references.specs.Components.{Parts, before, behind, split}
use Rattle.references.proofs.Whole.{fragment_left}
use Rattle.bare.specs.Bare.{bare_of, Past}
use Rattle.bare.proofs.Bare.{bare_of_empty, bare_of_octet}
use Rattle.components.specs.declared.Cuts.{Cuts}
use Rattle.components.specs.Looks.{Plain, Found}
use Rattle.components.specs.Steps.{scheme_of, authority_of, query_of, SchemeCut, AuthorityCut, QueryCut}
use Rattle.components.specs.Cuts.{CutsInto, CutsOf}
use Rattle.components.proofs.Ends.{end_octet}

-- at the end of a path no backslash stands
pub path_end : {s : List ℕ} {a e k : ℕ} → Found (octets "?#") s a e k → Plain s k e
path_end {s} {a} {e} {k} f h = end_octet (octets "?#") (get_or s k 0) refl (f.octet h)

module _ (s : List ℕ) (a e : ℕ) (l : e ≤ length s) (c : Cuts) where
  -- the parts by what is left at each place
  abbrev parts : Parts
  parts =
      record {
        scheme = (scheme_of (bare_of s c.from.0 e)).part;
        authority = (authority_of (bare_of s c.scheme.0 e)).part;
        path = before (octets "?#") (bare_of s c.path.0 e);
        query = (query_of (bare_of s c.query.0 e)).part;
        fragment = behind (octets "#") (bare_of s c.fragment.0 e);
      }

  module _ (b : Past s a e c.from.0) (x : SchemeCut s c.from.0 e c.scheme.0)
      (y : AuthorityCut s c.scheme.0 e c.path.0) (f : Found (octets "?#") s c.path.0 e c.query.0)
      (q : QueryCut s c.query.0 e c.fragment.0) where
    same_parts : parts ≡ split (bare_of s a e)
    same_parts = rw (b.same, q.rest, f.rest, y.cut.rest, x.cut.rest) refl

    path_first : c.path.0 < c.query.0 → (v : List ℕ) × (before (octets "?#") (bare_of s c.path.0 e) ≡ get_or s c.path.0 0 ∷ v)
    path_first h = (
      bare_of s (suc c.path.0) c.query.0,
      sym f.part ∙ bare_of_octet s c.path.0 c.query.0 h (omega (arith, f.inside)) (y.plain (omega (arith, f.inside))),
    )

    into_parts : CutsInto s a e c parts
    into_parts =
        record {
          in_order = b.from;
          scheme_after = x.cut.forward;
          path_after = y.cut.forward;
          query_after = f.forward;
          fragment_after = q.forward;
          in_part = q.inside;
          nothing = b.nothing;
          scheme = x.cut.part;
          authority = y.cut.part;
          path = f.part;
          query = q.part;
          fragment = rw (q.rest, f.rest) (sym (fragment_left (bare_of s c.path.0 e)));
          no_scheme = x.cut.no_part;
          some_scheme = x.cut.some_part;
          no_authority = y.cut.no_part;
          some_authority = y.cut.some_part;
          no_path = λ h. sym f.part ∙ rw h (bare_of_empty s c.path.0);
          first = path_first;
          no_query = q.no_part;
          some_query = q.some_part;
        }

    pub cuts_of : CutsOf s a e c
    cuts_of = subst (CutsInto s a e c) same_parts into_parts
