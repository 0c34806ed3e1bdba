-- References that resolve to themselves, or to the base. Assumes nothing.
use Prim.Native.Nat.{ℕ}
use mathlib.Core.Path.{◌≡◌, refl, sym, ap, ◌∙◌}
use mathlib.Core.List.{List}
use mathlib.Core.Option.{Option, none, some, IsSome}
use Rattle.references.specs.Components.{Parts, recompose, split}
use Rattle.references.proofs.Whole.{nothing_lost}
use Rattle.resolution.specs.Laws.{ItselfResolved}
use Rattle.resolution.specs.Resolve.{transform, transform_by, unfragmented}
use Rattle.resolution.specs.Segments.{Dotless}
use Rattle.resolution.proofs.Unchanged.{nothing_else}

-- the components r with these three instead
abbrev but : Parts → Option (List ℕ) → Option (List ℕ) → Option (List ℕ) → Parts
but r s a f = record { scheme = s; authority = a; path = r.path; query = r.query; fragment = f }

same_parts : (b r : Parts) (s a : Option (List ℕ)) → IsSome s → Dotless r.path → transform_by b r s a ≡ but r s a r.fragment
same_parts b r none a i d = absurd i
same_parts b r (some s) a i d = rw (nothing_else r.path d) refl

schemed : (b r : Parts) → IsSome r.scheme → Dotless r.path → transform b r ≡ r
schemed b r i d = same_parts b r r.scheme r.authority i d

whole : (base : List ℕ) → (split base).fragment ≡ none → unfragmented base ≡ base
whole base e =
    let b = split base in
    ap (λ (f : Option (List ℕ)). recompose (but b b.scheme b.authority f)) (sym e) ∙ nothing_lost base

pub itself_resolved : ItselfResolved
itself_resolved =
    record {
      schemed = λ base w i d. ap recompose (schemed (split base) (split w) i d) ∙ nothing_lost w;
      empty = λ base. refl;
      whole = whole;
    }
