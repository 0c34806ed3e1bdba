-- A right base and a right reference have one result. Assumes nothing.
use Prim.Native.Nat.{ℕ}
use mathlib.Core.Path.{◌≡◌, ap, ◌∙◌}
use mathlib.Core.List.{List}
use Rattle.references.specs.Components.{Parts, Splits, recompose, split}
use Rattle.references.proofs.Splitting.{references_split, uris_split}
use Rattle.resolution.specs.Laws.{OneResult}
use Rattle.resolution.specs.Resolve.{transform, resolved}

one : (base w : List ℕ) (b r : Parts) → Splits base b → Splits w r → recompose (transform b r) ≡ resolved base w
one base w b r h k =
    ap (λ (x : Parts). recompose (transform x r)) (references_split.one base b h)
    ∙ ap (λ (x : Parts). recompose (transform (split base) x)) (references_split.one w r k)

pub one_result : OneResult
one_result =
    record {
      one = one;
      there = λ base w d e. (split base, split w, uris_split.splits base d, references_split.splits w e, uris_split.scheme base d);
    }
