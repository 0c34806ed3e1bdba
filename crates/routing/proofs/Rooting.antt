-- What of a base is put before a merged path. Assumes nothing.
use Prim.Native.Nat.{ℕ, ◌+◌, ◌≤◌, ◌<◌}
use native.Mathlib.Omega.{arith}
use mathlib.Core.Path.{◌≡◌, refl, sym, ap, subst, ◌∙◌}
use mathlib.Core.List.{List, [], ◌∷◌}
use mathlib.Core.Logic.{◌⊎◌, inl, inr}
use mathlib.Core.Option.{Option, none, some, IsSome}
use lib.ListN.{length, get_or}
use Rattle.octets.specs.Text.{octets}
use Rattle.references.specs.Components.{marked, split}
use Rattle.resolution.specs.Resolve.{folder}
use Rattle.bare.specs.Bare.{bare_of}
use Rattle.components.specs.Cuts.{CutsInto, CutsOf}
use Rattle.components.specs.declared.Cuts.{Cuts}
use Rattle.routing.specs.Folders.{FolderEnds, root, Roots}
use Rattle.routing.proofs.Clean.{Clean, whole_clean, begins, octet_alone}

-- the components of a text without backslashes
pub cut_clean : (w : List ℕ) (c : Cuts) → Clean w → CutsOf w 0 (length w) c → CutsInto w 0 (length w) c (split w)
cut_clean w c f k = subst (λ (x : List ℕ). CutsInto w 0 (length w) c (split x)) (whole_clean w f) k

-- ---- on lists

root_slash : (o : Option (List ℕ)) (p : List ℕ) → IsSome o → p ≡ [] → root o p ≡ octets "/"
root_slash none p i e = absurd i
root_slash (some a) p i e = rw e refl

root_alone : (o : Option (List ℕ)) (p : List ℕ) → o ≡ none → root o p ≡ folder p
root_alone o p e = rw e refl

root_folder : (o : Option (List ℕ)) (p : List ℕ) (c : ℕ) (v : List ℕ) → p ≡ c ∷ v → root o p ≡ folder p
root_folder none p c v e = refl
root_folder (some a) p c v e = rw e refl

-- an authority begins with a slash
slash_first : (o : Option (List ℕ)) (c : ℕ) (v : List ℕ) → IsSome o → marked (octets "//") o ≡ c ∷ v → c ≡ 47
slash_first none c v i e = absurd i
slash_first (some a) c v i e = sym (ap (λ (t : List ℕ). get_or t 0 0) e)

-- ---- in a base

module _ (base : List ℕ) (b : Cuts) (f : Clean base) (k : CutsInto base 0 (length base) b (split base)) where
  abbrev authority : Option (List ℕ)
  authority = (split base).authority

  before_path : b.path.0 ≤ length base
  before_path = omega (arith, k.query_after, k.fragment_after, k.in_part)

  -- the authority's first slash, by itself
  slash_alone : b.scheme.0 < b.path.0 → IsSome authority → bare_of base b.scheme.0 (b.scheme.0 + 1) ≡ octets "/"
  slash_alone h i =
      let s = slash_first authority _ _ i (sym k.authority ∙ begins base b.scheme.0 f b.path.0 h before_path) in
      octet_alone base b.scheme.0 f (omega (arith, h, before_path)) ∙ ap {B = List ℕ} (λ c. c ∷ []) s

  pub slash_root : b.query.0 ≡ b.path.0 → b.scheme.0 < b.path.0 → (t : ℕ) → t ≡ b.scheme.0 + 1
      → Roots base (split base) (record { from = b.scheme; to = record { 0 = t } })
  slash_root n h t g =
      let i : IsSome authority = k.some_authority (λ q. absurd (omega (arith, h, q))) in
      let e : bare_of base b.scheme.0 t ≡ octets "/" = rw g (slash_alone h i) in
      record {
        inside = record { ordered = omega (arith, g); inside = omega (arith, g, h, before_path) };
        root = e ∙ sym (root_slash authority (split base).path i (k.no_path n));
        closed = rw e refl;
      }

  pub folder_root : (t : ℕ) → FolderEnds base b.path.0 b.query.0 t
      → ((b.query.0 ≡ b.path.0 → ⊥) ⊎ (b.path.0 ≤ b.scheme.0))
      → Roots base (split base) (record { from = b.path; to = record { 0 = t } })
  folder_root t g d =
      record {
        inside = record { ordered = g.from; inside = omega (arith, g.to, k.fragment_after, k.in_part) };
        root = g.folder ∙ ap folder k.path ∙ sym (go d);
        closed = g.closed;
      }
    where
      go : ((b.query.0 ≡ b.path.0 → ⊥) ⊎ (b.path.0 ≤ b.scheme.0)) → root authority (split base).path ≡ folder (split base).path
      go (inl n) =
          let z = k.first (omega (arith, k.query_after, n)) in
          root_folder authority (split base).path _ z.0 z.1
      go (inr n) = root_alone authority (split base).path (k.no_authority (omega (arith, n, k.path_after)))
